-- What is promised of a session is kept.
use Rattle.std.proofs.Common.{◌≡◌, ℕ, Bool, true, false, List, Option, Some, None, Ok, refl}
use Rattle.std.specs.Prelude.{IfSome, is_some}
use Rattle.std.proofs.lemmas.Bool.{false≢true}
use Rattle.bosh_base.specs.declared.entry.Entry.{Entry}
use Rattle.bosh_cloud.specs.Loading.{effects_in}
use Rattle.bosh_directing.specs.Keeps.{GoesWell, Keeps}
use Rattle.bosh_history.specs.Fit.{IsFit}
use Rattle.bosh_history.specs.Moments.{Opening}
use Rattle.bosh_journal.specs.Reads.{Says}
use Rattle.bosh_ports.specs.declared.keeper.Keeper as keeper
use Rattle.bosh_program.specs.Headline.{HoldFitPair, IsHeadline, Promises}
use Rattle.bosh_world.specs.Loads.{Loads}
use Rattle.bosh_world.specs.Told.{story_of}
use Rattle.bosh_world.specs.declared.site.Site.{Site}
use Rattle.laws_lawful.proofs.LawfulLemmas.{lawful_run}
use Rattle.laws_outside.specs.Shipped.{shipped}
use Rattle.laws_restarts.proofs.LeftLemmas.{leaves_fit}
use Rattle.laws_sites.proofs.LoadLemmas.{loaded_good}
use Rattle.laws_sites.specs.Good.{IsGood}
use Rattle.laws_stands_kept.proofs.KeptLemmas.{one_more_stands}

module _ {K L : Type 0} {k : keeper.Ghosts K} {l : keeper.Ghosts L} (bodies : K → Option (List (List ℕ)))
    (faults : K → ℕ) (is_broken : K → Bool) (cloud_bodies : L → Option (List (List ℕ))) (cloud_faults : L → ℕ) (store : K)
    (cloud : L) (was now : Site K L k l) (loads : Loads bodies faults is_broken cloud_bodies cloud_faults store cloud was)
    (keeps : Keeps bodies cloud_bodies was now) where
  -- what was read of the two stores is a fit pair
  read_fit : HoldFitPair bodies cloud_bodies store cloud → is_some (bodies store) ≡ true → is_some (cloud_bodies cloud) ≡ true
      → IsFit shipped (record { entries = loads.book.first.journal.entries; effects = was.cloud.effects })
  read_fit hold = by (bodies store) refl loads.book.reads.says
    where
      in_cloud : (list : List (List ℕ)) → bodies store ≡ Some list → Says (Ok loads.book.first.journal.entries) list
          → (told : Option (List (List ℕ))) → cloud_bodies cloud ≡ told
          → IfSome told (λ cloud_list. effects_in cloud_list ≡ Ok was.cloud.effects) → is_some told ≡ true
          → IsFit shipped (record { entries = loads.book.first.journal.entries; effects = was.cloud.effects })
      in_cloud list told_is spelled (Some cloud_list) cloud_is done there =
          hold list cloud_list loads.book.first.journal.entries was.cloud.effects told_is cloud_is spelled done
      in_cloud list told_is spelled None cloud_is done there = absurd (false≢true there)

      by : (told : Option (List (List ℕ))) → bodies store ≡ told → IfSome told (Says (Ok loads.book.first.journal.entries))
          → is_some told ≡ true → is_some (cloud_bodies cloud) ≡ true
          → IsFit shipped (record { entries = loads.book.first.journal.entries; effects = was.cloud.effects })
      by (Some list) told_is spelled there = in_cloud list told_is spelled (cloud_bodies cloud) refl loads.cloud_of.says
      by None told_is spelled there = absurd (false≢true there)

  pub promised : Promises bodies cloud_bodies store cloud now
  promised tells cloud_tells hold = kept (keeps began)
    where
      began : GoesWell bodies cloud_bodies was
      began = loaded_good bodies faults is_broken cloud_bodies cloud_faults store cloud was loads tells cloud_tells shipped
          one_more_stands (read_fit hold tells cloud_tells)

      kept : GoesWell bodies cloud_bodies now → IsHeadline bodies cloud_bodies now
      kept it = record {
        opening = it.0;
        fit = it.1;
        counted = it.2.opening;
        lawful = lawful_run shipped it.0 (story_of now) it.1 it.2.run;
        leaves = λ list cloud_list entries effects.
            leaves_fit shipped bodies cloud_bodies it.0 now it.1 it.2 list cloud_list entries effects;
      }
