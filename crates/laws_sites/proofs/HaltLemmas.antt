-- A site stays good where a call on the cloud is refused, and where a call is given up.
use Rattle.std.proofs.Common.{◌≡◌, ◌∙◌, ℕ, Bool, true, false, List, [], ◌∷◌, ◌++◌, Option, Some, None, append-nil, refl, subst, sym}
use Rattle.std.specs.Prelude.{◌≢◌}
use Rattle.std.proofs.lemmas.Bool.{false≢true, true≢false}
use Rattle.bosh_base.specs.declared.entry.Entry.{Entry}
use Rattle.bosh_base.specs.declared.moves.Cause.{Cause}
use Rattle.bosh_base.specs.declared.moves.Cause.TheVariants as causes
use Rattle.bosh_base.specs.declared.moves.Move.{Move}
use Rattle.bosh_book.specs.declared.book.Book.{Book}
use Rattle.bosh_book.specs.declared.standing.Standing.TheVariants.{Unread}
use Rattle.bosh_calls.specs.declared.calls.OpenCall as site
use Rattle.bosh_cloud.specs.CloudView.{CloudView}
use Rattle.bosh_cloud.specs.Loading as cloud
use Rattle.bosh_history.specs.Fit.{IsFit}
use Rattle.bosh_history.specs.Moments.{Moment, Opening}
use Rattle.bosh_history.specs.Notes.{Outside}
use Rattle.bosh_journal.specs.JournalView.{Pending}
use Rattle.bosh_journal.specs.Kept as journal
use Rattle.bosh_moves.specs.Story.{effects_told, story}
use Rattle.bosh_ports.specs.Rigged.{RigState}
use Rattle.bosh_ports.specs.declared.keeper.Keeper as keeper
use Rattle.bosh_world.specs.Abandons.{GivesUp}
use Rattle.bosh_world.specs.Performing as world
use Rattle.bosh_world.specs.Steps.{bodies_of}
use Rattle.bosh_world.specs.Told.{story_of}
use Rattle.bosh_world.specs.declared.site.Site.{Site}
use Rattle.laws_sites.proofs.StepLemmas.{book_goes_on, good_on, halted_good, stopped}
use Rattle.laws_sites.proofs.StopLemmas.{HasTaken, MayTakeMore, effects_stopped, take_stopped}
use Rattle.laws_sites.specs.Calls.{AreCalls, AreRising}
use Rattle.laws_sites.specs.Good.{GoesOn, HasHalted, IsGood, IsRecorded, moment_of, FindsIn, IsLeft, IsLeftOf, IsPresent, SayDone}
use Rattle.laws_stands_fits.specs.Whole.{StandsWhole}
use Rattle.laws_sites.proofs.ExplainLemmas.{explained, MayPend, MayCome}
use Rattle.bosh_journal.specs.Spelled.{Spell}

-- ---- what is pending

-- a book whose store has not failed has nothing that counts
pub may_pend_none : (outside : Outside) (m : Moment) (b : Bool) (pending : Option Pending) → b ≡ false
    → MayPend outside m b pending
may_pend_none outside m false pending is = tt
may_pend_none outside m true pending is = absurd (true≢false is)

pub may_come_none : (outside : Outside) (m : Moment) (wrote : Option Entry) (took : List ℕ) (b : Bool)
    (pending : Option (List ℕ)) → b ≡ false → MayCome outside m wrote took b pending
may_come_none outside m wrote took false pending is = tt
may_come_none outside m wrote took true pending is = absurd (true≢false is)

-- what may be taken besides may come besides
may_come_taken : (outside : Outside) (m : Moment) (took : List ℕ) (b : Bool) (pending : Option (List ℕ))
    → MayTakeMore outside m 0 took b pending → MayCome outside (stopped m) None took b pending
may_come_taken outside m took false pending more = tt
may_come_taken outside m took true None more = tt
may_come_taken outside m took true (Some body) (entry, spelled, (others, (may, effects))) = (
  entry,
  spelled,
  (
    None,
    (
      others,
      (
        tt,
        take_stopped outside m 0 others may,
        effects_stopped m others ∙ effects ∙ (λ i. sym (effects_stopped m took) i ++ entry ∷ []),
      ),
    ),
  ),
)

module _ {K L : Type 0} {k : keeper.Ghosts K} {l : keeper.Ghosts L} (outside : Outside) (bodies : K → Option (List (List ℕ)))
    (cloud_bodies : L → Option (List (List ℕ))) (o : Opening) where
  -- ---- nothing changes

  pub same_good : (was now : Site K L k l) → IsGood outside bodies cloud_bodies o was → now ≡ was
      → IsGood outside bodies cloud_bodies o now
  same_good was now good same = subst (IsGood outside bodies cloud_bodies o) (sym same) good

  -- a site that ran runs on; its book and its calls are what they were, and what was done to its cloud
  pub lacks_good : (was now : Site K L k l) → IsGood outside bodies cloud_bodies o was
      → world.LacksMemory cloud_bodies was now → IsGood outside bodies cloud_bodies o now
  lacks_good was now good lacks =
      good_on outside bodies cloud_bodies o was now [] good lacks.comes.story lacks.same_opening tt
      ((λ i. (lacks.same_book i).journal.entries) ∙ sym (append-nil was.book.journal.entries))
      (record {
        halted = good.halted ∙ lacks.ran ∙ sym lacks.running;
        numbers = good.numbers;
        told = lacks.comes.told ∙ good.told;
        recorded = λ read. recorded (good.recorded (book_goes_on was lacks.ran).1);
        runs = λ running. goes (good.runs lacks.ran);
        halts = λ halted. absurd (false≢true (sym lacks.running ∙ halted));
      })
    where
      recorded : IsRecorded (moment_of o was) was → IsRecorded (moment_of o was) now
      recorded it = record {
        told = it.told;
        agrees = it.agrees;
        whole = subst (λ (b : Book (RigState K)). StandsWhole it.told b.records) (sym lacks.same_book) it.whole;
      }

      goes : GoesOn bodies cloud_bodies (moment_of o was) was → GoesOn bodies cloud_bodies (moment_of o was) now
      goes it = record {
        recovered = it.recovered;
        effects = lacks.same_effects ∙ it.effects;
        calls = subst (λ (moves : List Move). AreCalls moves now.calls.unsettled (moment_of o was).calls)
            (sym (lacks.comes.story ∙ append-nil (story_of was)))
            (subst (λ (unsettled : List site.OpenCall). AreCalls (story_of was) unsettled (moment_of o was).calls)
            (sym lacks.same_calls) it.calls);
        rising = subst (AreRising 0) (sym lacks.same_calls) it.rising;
        book_kept = subst (λ (b : Book (RigState K)). journal.IsKept (bodies_of bodies) b.journal) (sym lacks.same_book)
            it.book_kept;
        cloud_kept = lacks.kept it.cloud_kept;
      }

  -- ---- halts

  -- it halts in a call on the cloud, which may have been one in which effects came
  pub halts_good : (was now : Site K L k l) (faults : L → ℕ) (cause : Cause) → IsFit outside o
      → IsGood outside bodies cloud_bodies o was → world.HaltsInCloud cloud_bodies faults was cause now
      → HasTaken outside (moment_of o was) 0 now.cloud → IsGood outside bodies cloud_bodies o now
  halts_good was now faults cause fit good halts has =
      halted_good outside bodies cloud_bodies o was now cause fit good halts.ran halts.halted halts.comes.story
      halts.same_opening (λ i. (halts.same_book i).journal.entries) (λ i. (halts.same_book i).records) goes_on.1 halts.comes.told
      (explained outside bodies cloud_bodies (stopped (moment_of o was)) now (record {
        wrote = None;
        took = has.took;
        may_write = tt;
        may_take = take_stopped outside (moment_of o was) 0 has.took has.may;
        effects = has.effects ∙ sym (effects_stopped (moment_of o was) has.took);
        may_come = may_come_taken outside (moment_of o was) has.took now.cloud.is_stale now.cloud.pending has.more;
        may_pend = may_pend_none outside (stopped (moment_of o was)) now.book.journal.is_broken now.book.journal.pending
            ((λ i. (halts.same_book i).journal.is_broken) ∙ goes_on.0);
        book_kept = subst (λ (b : Book (RigState K)). journal.IsKept (bodies_of bodies) b.journal) (sym halts.same_book)
            (good.runs halts.ran).book_kept;
        cloud_kept = halts.kept (good.runs halts.ran).cloud_kept;
        numbers = good.numbers;
      }))
    where
      goes_on : (was.book.journal.is_broken ≡ false) × (was.book.standing ≢ Unread)
      goes_on = book_goes_on was halts.ran

  -- a call that is open is given up
  pub gives_up_good : (was now : Site K L k l) → IsFit outside o → IsGood outside bodies cloud_bodies o was
      → was.book.standing ≢ Unread → GivesUp was now → IsGood outside bodies cloud_bodies o now
  gives_up_good was now fit good read gives = by was.history.is_halted refl
    where
      kept : journal.IsKept (bodies_of bodies) was.book.journal → journal.IsKept (bodies_of bodies) now.book.journal
      kept was_kept = subst (λ (b : Book (RigState K)). journal.IsKept (bodies_of bodies) b.journal) (sym gives.book) was_kept

      by : (b : Bool) → was.history.is_halted ≡ b → IsGood outside bodies cloud_bodies o now
      by false ran =
          halted_good outside bodies cloud_bodies o was now causes.Stop fit good ran gives.halted
          (gives.halts ran).story gives.same_opening (λ i. (gives.book i).journal.entries)
          (λ i. (gives.book i).records) read (gives.halts ran).told
          (explained outside bodies cloud_bodies (stopped (moment_of o was)) now (record {
            wrote = None;
            took = [];
            may_write = tt;
            may_take = tt;
            effects = (λ i. (gives.same_cloud i).effects) ∙ (good.runs ran).effects;
            may_come = may_come_none outside (stopped (moment_of o was)) None [] now.cloud.is_stale now.cloud.pending
                ((λ i. (gives.same_cloud i).is_stale) ∙ was.is_site.cloud_runs ran);
            may_pend = may_pend_none outside (stopped (moment_of o was)) now.book.journal.is_broken
                now.book.journal.pending ((λ i. (gives.book i).journal.is_broken) ∙ (book_goes_on was ran).0);
            book_kept = kept (good.runs ran).book_kept;
            cloud_kept = subst (λ (c : CloudView L). cloud.IsKept cloud_bodies c) (sym gives.same_cloud)
                (good.runs ran).cloud_kept;
            numbers = good.numbers;
          }))
      by true halted =
          good_on outside bodies cloud_bodies o was now [] good
          (same ∙ sym (append-nil (story_of was))) gives.same_opening tt
          ((λ i. (gives.book i).journal.entries) ∙ sym (append-nil was.book.journal.entries))
          (record {
            halted = good.halted ∙ halted ∙ sym gives.halted;
            numbers = good.numbers;
            told = (λ i. effects_told (gives.stays halted i) (gives.same_cloud i).effects) ∙ good.told;
            recorded = λ read_now. recorded (good.recorded read);
            runs = λ running. absurd (false≢true (sym running ∙ gives.halted));
            halts = λ is. stays (good.halts halted);
          })
        where
          same : story_of now ≡ story_of was
          same = λ i. story (gives.stays halted i) (gives.book i).journal.entries (gives.same_cloud i).effects

          recorded : IsRecorded (moment_of o was) was → IsRecorded (moment_of o was) now
          recorded it = record {
            told = it.told;
            agrees = it.agrees;
            whole = subst (λ (b : Book (RigState K)). StandsWhole it.told b.records) (sym gives.book) it.whole;
          }

          stays : HasHalted outside bodies cloud_bodies (moment_of o was) was
              → HasHalted outside bodies cloud_bodies (moment_of o was) now
          stays it = record {
            cloud = subst (λ (c : CloudView L). FindsIn (cloud_bodies c.store) SayDone (IsLeft outside (moment_of o was)))
                (sym gives.same_cloud) it.cloud;
            book = subst (λ (b : Book (RigState K)). FindsIn (bodies_of bodies b.journal.store) Spell
                (IsLeftOf outside (moment_of o was) b.journal.entries)) (sym gives.book) it.book;
            present = subst (λ (b : Book (RigState K)). IsPresent (bodies_of bodies b.journal.store)) (sym gives.book)
                it.present;
          }
