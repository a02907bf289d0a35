-- What a good site leaves is a fit pair.
use Rattle.std.proofs.Common.{◌≡◌, ℕ, Bool, true, List, Option, Some, None, refl, subst}
use Rattle.std.specs.Prelude.{is_some}
use Rattle.bosh_base.specs.declared.entry.Entry.{Entry}
use Rattle.bosh_history.specs.Fit.{IsFit}
use Rattle.bosh_history.specs.Moments.{Opening}
use Rattle.bosh_history.specs.Notes.{Outside}
use Rattle.bosh_journal.specs.Spelled.{Spell}
use Rattle.bosh_ports.specs.declared.keeper.Keeper as keeper
use Rattle.bosh_world.specs.Loads.{Loads}
use Rattle.bosh_world.specs.Steps.{bodies_of}
use Rattle.bosh_world.specs.declared.site.Site.{Site}
use Rattle.laws_restarts.proofs.HaltedLemmas.{at_halt, done_in, found_in, halt_explained, left_fit}
use Rattle.laws_sites.proofs.LoadLemmas.{loaded_good}
use Rattle.laws_sites.specs.Good.{FindsIn, HasHalted, IsGood, IsLeft, IsLeftOf, IsPresent, SayDone}
use Rattle.laws_stands_kept.proofs.KeptLemmas.{one_more_stands}

present_told : (told : Option (List (List ℕ))) → IsPresent told → is_some told ≡ true
present_told (Some list) present = refl
present_told None present = absurd present

finds_told : (told : Option (List (List ℕ))) (Says : List (List ℕ) → List Entry → Type 0) (Is : List Entry → Type 0)
    → FindsIn told Says Is → is_some told ≡ true
finds_told (Some list) Says Is finds = refl
finds_told None Says Is finds = absurd finds

module _ {K L : Type 0} {k : keeper.Ghosts K} {l : keeper.Ghosts L} (outside : Outside) (bodies : K → Option (List (List ℕ)))
    (cloud_bodies : L → Option (List (List ℕ))) (o : Opening) (was : Site K L k l) (fit : IsFit outside o)
    (good : IsGood outside bodies cloud_bodies o was) where
  explains : HasHalted outside bodies cloud_bodies (at_halt outside bodies cloud_bodies o was good) was
  explains = halt_explained outside bodies cloud_bodies o was good

  pub leaves_fit : (list cloud_list : List (List ℕ)) (entries effects : List Entry)
      → bodies was.book.journal.store.inner ≡ Some list → cloud_bodies was.cloud.store ≡ Some cloud_list → Spell list entries
      → SayDone cloud_list effects → IsFit outside (record { entries = entries; effects = effects })
  leaves_fit list cloud_list entries effects told cloud_told spelled done =
      left_fit outside bodies cloud_bodies o was good fit entries effects
      (subst (λ it. FindsIn it Spell (IsLeftOf outside (at_halt outside bodies cloud_bodies o was good)
      was.book.journal.entries)) told explains.book entries spelled)
      (subst (λ it. FindsIn it SayDone (IsLeft outside (at_halt outside bodies cloud_bodies o was good))) cloud_told
      explains.cloud effects done)

  pub load_good : (faults : K → ℕ) (is_broken : K → Bool) (cloud_faults : L → ℕ) (now : Site K L k l)
      → Loads bodies faults is_broken cloud_bodies cloud_faults was.book.journal.store.inner was.cloud.store now
      → (o : Opening) × IsFit outside o × IsGood outside bodies cloud_bodies o now
  load_good faults is_broken cloud_faults now loads =
      loaded_good bodies faults is_broken cloud_bodies cloud_faults was.book.journal.store.inner was.cloud.store now loads
      (present_told (bodies_of bodies was.book.journal.store) explains.present)
      (finds_told (cloud_bodies was.cloud.store) SayDone (IsLeft outside (at_halt outside bodies cloud_bodies o was good))
      explains.cloud) outside one_more_stands
      (left_fit outside bodies cloud_bodies o was good fit loads.book.first.journal.entries now.cloud.effects
      (found_in (bodies_of bodies was.book.journal.store)
      (IsLeftOf outside (at_halt outside bodies cloud_bodies o was good) was.book.journal.entries)
      loads.book.first.journal.entries explains.book loads.book.reads.says explains.present)
      (done_in (cloud_bodies was.cloud.store) (IsLeft outside (at_halt outside bodies cloud_bodies o was good))
      now.cloud.effects explains.cloud loads.cloud_of.says))
