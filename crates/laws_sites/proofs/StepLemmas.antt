-- A site stays good as moves come after those that there are.
use Rattle.std.proofs.Common.{◌≡◌, ◌∙◌, ℕ, Bool, true, false, not, List, [], ◌∷◌, ◌++◌, Option, ap, append-nil, length, refl, subst, sym}
use Rattle.std.specs.Prelude.{◌≢◌, ◌||◌, fold}
use Rattle.std.specs.List.{filter_map}
use Rattle.std.proofs.lemmas.Bool.{false≢true, true≢false}
use Rattle.bosh_base.specs.declared.moves.Cause.{Cause}
use Rattle.bosh_base.specs.declared.moves.Move.{Move}
use Rattle.bosh_base.specs.declared.moves.Move.TheVariants as moves
use Rattle.bosh_book.specs.Running.{is_running}
use Rattle.bosh_book.specs.declared.standing.Standing.{Standing}
use Rattle.bosh_book.specs.declared.standing.Standing.TheVariants.{Running, Unread}
use Rattle.bosh_history.specs.Fit.{IsFit, has_numbers}
use Rattle.bosh_history.specs.Moments.{Moment, Opening, durable, durable_entry, later, moment}
use Rattle.bosh_history.specs.Notes.{Outside}
use Rattle.bosh_history.specs.Permitted.{IsRun, IsRunFrom}
use Rattle.bosh_moves.specs.Story.{effects_told}
use Rattle.bosh_ports.specs.declared.keeper.Keeper as keeper
use Rattle.bosh_world.specs.Told.{story_of}
use Rattle.bosh_world.specs.declared.site.Site.{Site}
use Rattle.laws_runs.proofs.ReadLemmas.{run_facts}
use Rattle.laws_sites.proofs.MomentLemmas.{durable_on, later_on, run_on}
use Rattle.laws_sites.specs.Good.{GoesOn, HasHalted, IsGood, IsRecorded, moment_of}
use Rattle.laws_stands_fits.specs.Whole.{StandsWhole}
use Rattle.laws_stands_noted.proofs.AgreesLemmas.{move_agrees}

-- what is good of a site beside its history, at the moment that this has come to
pub record IsAfter {K L : Type 0} {k : keeper.Ghosts K} {l : keeper.Ghosts L}
    (outside : Outside) (bodies : K → Option (List (List ℕ))) (cloud_bodies : L → Option (List (List ℕ))) (m : Moment)
    (site : Site K L k l) : Type 0 where
  pub halted : m.halted ≡ site.history.is_halted
  pub numbers : has_numbers m.known ≡ true
  pub told : effects_told site.history site.cloud.effects ≡ length m.effects
  pub recorded : site.book.standing ≢ Unread → IsRecorded m site
  pub runs : site.history.is_halted ≡ false → GoesOn bodies cloud_bodies m site
  pub halts : site.history.is_halted ≡ true → HasHalted outside bodies cloud_bodies m site

pub good_on : {K L : Type 0} {k : keeper.Ghosts K} {l : keeper.Ghosts L} (outside : Outside)
    (bodies : K → Option (List (List ℕ))) (cloud_bodies : L → Option (List (List ℕ))) (o : Opening) (was now : Site K L k l)
    (more : List Move) → IsGood outside bodies cloud_bodies o was → story_of now ≡ story_of was ++ more
    → now.opening ≡ was.opening → IsRunFrom outside (moment_of o was) more
    → now.book.journal.entries ≡ was.book.journal.entries ++ filter_map durable_entry more
    → IsAfter outside bodies cloud_bodies (fold later (moment_of o was) more) now
    → IsGood outside bodies cloud_bodies o now
good_on outside bodies cloud_bodies o was now more good story opening permitted entries after = record {
  run = subst (λ (moves : List Move). IsRun outside o moves) (sym story)
      (run_on outside o (story_of was) more good.run permitted);
  opening = opening ∙ good.opening;
  entries = ap (durable o) story ∙ durable_on o (story_of was) more
      ∙ (λ i. good.entries i ++ filter_map durable_entry more) ∙ sym entries;
  halted = ap (λ (m : Moment). m.halted) next ∙ after.halted;
  numbers = ap (λ (m : Moment). has_numbers m.known) next ∙ after.numbers;
  told = after.told ∙ ap (λ (m : Moment). length m.effects) (sym next);
  recorded = λ read. subst (λ (m : Moment). IsRecorded m now) (sym next) (after.recorded read);
  runs = λ running. subst (λ (m : Moment). GoesOn bodies cloud_bodies m now) (sym next) (after.runs running);
  halts = λ halted. subst (λ (m : Moment). HasHalted outside bodies cloud_bodies m now) (sym next) (after.halts halted);
}
  where
    next : moment_of o now ≡ fold later (moment_of o was) more
    next = ap (moment o) story ∙ later_on o (story_of was) more

-- the moment once the site has halted
abbrev pub stopped : Moment → Moment
stopped m = record m { halted = true }

-- a site that ran has halted, and its book has what it had
pub halted_good : {K L : Type 0} {k : keeper.Ghosts K} {l : keeper.Ghosts L} (outside : Outside)
    (bodies : K → Option (List (List ℕ))) (cloud_bodies : L → Option (List (List ℕ))) (o : Opening) (was now : Site K L k l)
    (cause : Cause) → IsFit outside o → IsGood outside bodies cloud_bodies o was → was.history.is_halted ≡ false
    → now.history.is_halted ≡ true → story_of now ≡ story_of was ++ moves.Halt cause ∷ []
    → now.opening ≡ was.opening → now.book.journal.entries ≡ was.book.journal.entries
    → now.book.records ≡ was.book.records → was.book.standing ≢ Unread
    → effects_told now.history now.cloud.effects ≡ effects_told was.history was.cloud.effects
    → HasHalted outside bodies cloud_bodies (stopped (moment_of o was)) now
    → IsGood outside bodies cloud_bodies o now
halted_good outside bodies cloud_bodies o was now cause fit good ran halted story opening entries records read told halts =
    good_on outside bodies cloud_bodies o was now (moves.Halt cause ∷ []) good story opening (good.halted ∙ ran, tt, tt)
    (entries ∙ sym (append-nil was.book.journal.entries))
    (record {
      halted = sym halted;
      numbers = good.numbers;
      told = told ∙ good.told;
      recorded = λ read_now. told_so;
      runs = λ running. absurd (false≢true (sym running ∙ halted));
      halts = λ is. halts;
    })
  where
    recorded : IsRecorded (moment_of o was) was
    recorded = good.recorded read

    told_so : IsRecorded (stopped (moment_of o was)) now
    told_so = record {
      told = recorded.told;
      agrees = move_agrees outside (moment_of o was) recorded.told (moves.Halt cause) recorded.agrees
          (run_facts outside o (story_of was) fit good.run) recorded.whole.stands.tells_well (good.halted ∙ ran);
      whole = subst (StandsWhole recorded.told) (sym records) recorded.whole;
    }

-- ---- a site that has not halted

-- its book goes on: its store has not failed since it was read, and its records were read
pub book_goes_on : {K L : Type 0} {k : keeper.Ghosts K} {l : keeper.Ghosts L} (site : Site K L k l)
    → site.history.is_halted ≡ false → (site.book.journal.is_broken ≡ false) × (site.book.standing ≢ Unread)
book_goes_on site running = by site.book.journal.is_broken site.book.standing (site.is_site.book_runs running)
  where
    by : (b : Bool) (s : Standing) → (b || not (is_running s)) ≡ false → (b ≡ false) × (s ≢ Unread)
    by false Running is = (refl, λ same. absurd (let no : Running ≡ Unread = same in cc))
    by false s is = absurd (true≢false is)
    by true s is = absurd (true≢false is)
