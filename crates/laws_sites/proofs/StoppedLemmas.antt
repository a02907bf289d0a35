-- A site stays good where the book refuses what it is asked: the end of a task, or the answer of a call.
use Rattle.std.proofs.Common.{◌≡◌, ℕ, true, false, List, [], Option, Some, None, inl, inr, refl, subst, sym}
use Rattle.std.specs.Prelude.{fold, map}
use Rattle.std.specs.Option.{option_and_then}
use Rattle.bosh_asks.specs.declared.fault.BookFault.TheVariants as book
use Rattle.bosh_base.specs.declared.entry.Entry.{Entry}
use Rattle.bosh_base.specs.declared.entry.Entry.TheVariants as entries
use Rattle.bosh_base.specs.declared.moves.Cause.{Cause}
use Rattle.bosh_base.specs.declared.moves.Cause.TheVariants as causes
use Rattle.bosh_base.specs.declared.moves.Move.{Move}
use Rattle.bosh_base.specs.declared.moves.Move.TheVariants as moves
use Rattle.bosh_book.specs.Ends.{end_by}
use Rattle.bosh_book.specs.Faults.{MayEnd}
use Rattle.bosh_calls.specs.declared.calls.OpenCall as site
use Rattle.bosh_history.specs.Fit.{IsFit, has_numbers}
use Rattle.bosh_history.specs.Known.{Known}
use Rattle.bosh_history.specs.Moments.{Opening, later}
use Rattle.bosh_history.specs.Notes.{Outside}
use Rattle.bosh_history.specs.Permitted.{IsRunFrom}
use Rattle.bosh_ports.specs.declared.keeper.Keeper as keeper
use Rattle.bosh_records.specs.Readers.{work_at}
use Rattle.bosh_work.specs.declared.work.Work.{Work}
use Rattle.bosh_world.specs.Abandons.{Abandons}
use Rattle.bosh_world.specs.Holds.{IsHeld}
use Rattle.bosh_world.specs.Pending.{IsAllowed, IsClosing, Pends}
use Rattle.bosh_world.specs.Refuses.{FailsInStore, Refuses}
use Rattle.bosh_world.specs.Steps.{Notes}
use Rattle.bosh_world.specs.Told.{story_of}
use Rattle.bosh_world.specs.declared.fault.SiteFault.{SiteFault}
use Rattle.bosh_world.specs.declared.fault.SiteFault.TheVariants as fault
use Rattle.bosh_world.specs.declared.held.HeldCall.{HeldCall}
use Rattle.bosh_world.specs.declared.site.Site.{Site}
use Rattle.laws_facts.specs.Owners.{works}
use Rattle.laws_held.proofs.HeldLemmas.{run_holds}
use Rattle.laws_sites.proofs.CallLemmas.{calls_on}
use Rattle.laws_sites.proofs.ChoiceLemmas.{closing_tells, end_lawful}
use Rattle.laws_sites.proofs.EndLemmas.{working_is, closing_room}
use Rattle.laws_sites.proofs.HaltLemmas.{gives_up_good, same_good}
use Rattle.laws_sites.proofs.HeldLemmas.{held_may_end}
use Rattle.laws_sites.proofs.KeepLemmas.{same_parts_good}
use Rattle.laws_sites.proofs.MomentLemmas.{MayBeNext}
use Rattle.laws_sites.proofs.NoteLemmas.{noted_good}
use Rattle.laws_sites.proofs.NotedHaltLemmas.{noted_halt_good, pending_stopped}
use Rattle.laws_sites.proofs.StepLemmas.{book_goes_on, stopped}
use Rattle.laws_sites.specs.Calls.{AreCalls, AreRising}
use Rattle.laws_sites.specs.Good.{GoesOn, IsGood, IsRecorded, moment_of}
use Rattle.laws_stands.specs.Stands.{IsWork}
use Rattle.laws_stands.specs.Told.{is_going}
use Rattle.laws_stands_fits.proofs.EntriesLemmas.{whole_with_room}
use Rattle.laws_sites.proofs.CountLemmas.{HasRoomFor}
use Rattle.laws_sites.proofs.ExplainLemmas.{MayPend}

module _ {K L : Type 0} {k : keeper.Ghosts K} {l : keeper.Ghosts L} (outside : Outside) (bodies : K → Option (List (List ℕ)))
    (cloud_bodies : L → Option (List (List ℕ))) (o : Opening) where
  -- ---- a refusal of the book

  -- what is known of entries that were noted before it, where the site ran
  pub record Left (faults : K → ℕ) (was now : Site K L k l) (noted : List Entry) (halt : Option Cause) : Type 0 where
    pub may : IsRunFrom outside (moment_of o was) (map moves.Note noted)
    pub recorded : IsRecorded (fold later (moment_of o was) (map moves.Note noted)) now
    pub numbers : has_numbers (fold later (moment_of o was) (map moves.Note noted)).known ≡ true
    pub pends : now.history.is_halted ≡ true
        → MayPend outside (stopped (fold later (moment_of o was) (map moves.Note noted))) now.book.journal.is_broken
        now.book.journal.pending
    pub goes_on : halt ≡ None → IsGood outside bodies cloud_bodies o now

  pub refused_book_good : (faults : K → ℕ) (was now : Site K L k l) (noted : List Entry) (why : SiteFault)
      → IsFit outside o → IsGood outside bodies cloud_bodies o was
      → ((halt : Option Cause) → Notes bodies faults was noted halt now → Left faults was now noted halt)
      → Refuses bodies faults was noted why now → IsGood outside bodies cloud_bodies o now
  refused_book_good faults was now noted why fit good left = by why
    where
      halts : (cause : Cause) → FailsInStore bodies faults was noted cause now → IsGood outside bodies cloud_bodies o now
      halts cause fails =
          let it : Left faults was now noted (Some cause) = left (Some cause) fails.notes in
          noted_halt_good outside bodies cloud_bodies faults o was now noted cause good fails.notes
          (run_holds outside o (story_of was) fit good.run) it.may it.recorded it.numbers (it.pends fails.notes.halted)

      by : (why : SiteFault) → Refuses bodies faults was noted why now → IsGood outside bodies cloud_bodies o now
      by (fault.Book book.Stopped) (inl (halted, same)) = same_good outside bodies cloud_bodies o was now good same
      by (fault.Book book.Stopped) (inr (running, fails)) = halts causes.Stop fails
      by (fault.Book book.StoreFault) (running, fails) = halts causes.Store fails
      by why refuses = (left None refuses.1).goes_on refl

module _ {K L : Type 0} {k : keeper.Ghosts K} {l : keeper.Ghosts L}
    (bodies : K → Option (List (List ℕ))) (cloud_bodies : L → Option (List (List ℕ))) (faults : K → ℕ) (outside : Outside)
    (o : Opening) where
  -- nothing was noted: what is recorded is as it was
  pub recorded_still : (was now : Site K L k l) (halt : Option Cause) → IsGood outside bodies cloud_bodies o was
      → Notes bodies faults was [] halt now → IsRecorded (moment_of o was) now
  recorded_still was now halt good notes = record {
    told = it.told;
    agrees = it.agrees;
    whole = whole_with_room it.told was.book.records now.book.records notes.book.learns it.whole;
  }
    where
      it : IsRecorded (moment_of o was) was
      it = good.recorded (book_goes_on was notes.running).1

  -- .. and neither was a call
  pub still_good : (was now : Site K L k l) → IsGood outside bodies cloud_bodies o was → Notes bodies faults was [] None now
      → now.calls.unsettled ≡ was.calls.unsettled → IsGood outside bodies cloud_bodies o now
  still_good was now good notes calls =
      noted_good outside bodies cloud_bodies faults o was now [] good notes tt
      (λ read. recorded_still was now None good notes) goes.recovered good.numbers
      (subst (λ (all : List Move). AreCalls all now.calls.unsettled (moment_of o was).calls) (sym notes.comes.story)
      (calls_on (story_of was) [] now.calls.unsettled (moment_of o was).calls
      (subst (λ (these : List site.OpenCall). AreCalls (story_of was) these (moment_of o was).calls) (sym calls) goes.calls)))
      (subst (AreRising 0) (sym calls) goes.rising)
    where
      goes : GoesOn bodies cloud_bodies (moment_of o was) was
      goes = good.runs notes.running

  -- nothing was noted, and what is pending was permitted
  pub left_still : (was now : Site K L k l) (e : Entry → Type 0) → IsGood outside bodies cloud_bodies o was
      → now.calls.unsettled ≡ was.calls.unsettled → Pends was e now
      → (was.history.is_halted ≡ false → (entry : Entry) → e entry
      → MayBeNext outside (moment_of o was) entry × HasRoomFor (moment_of o was) entry)
      → (halt : Option Cause) → Notes bodies faults was [] halt now
      → Left outside bodies cloud_bodies o faults was now [] halt
  left_still was now e good calls pends may halt notes = record {
    may = tt;
    recorded = recorded_still was now halt good notes;
    numbers = good.numbers;
    pends = λ halted.
        let it = pends notes.running halted in
        let next = may notes.running it.0 it.1 in
        pending_stopped outside (moment_of o was) it.0 now.book.journal.is_broken now.book.journal.pending next.0 next.1
        good.numbers it.2;
    goes_on = λ none.
        still_good was now good (subst (λ (h : Option Cause). Notes bodies faults was [] h now) none notes) calls;
  }

  -- ---- the end of a task

  pub end_stopped_good : (was now : Site K L k l) (task : ℕ) (why : SiteFault) → IsFit outside o
      → IsGood outside bodies cloud_bodies o was → Refuses bodies faults was [] why now → now.calls ≡ was.calls
      → Pends was (IsClosing was.book.records task) now → IsGood outside bodies cloud_bodies o now
  end_stopped_good was now task why fit good refuses calls pends =
      refused_book_good outside bodies cloud_bodies o faults was now [] why fit good
      (left_still was now (IsClosing was.book.records task) good (λ i. (calls i).unsettled) pends may) refuses
    where
      may : was.history.is_halted ≡ false → (entry : Entry) → IsClosing was.book.records task entry
          → MayBeNext outside (moment_of o was) entry × HasRoomFor (moment_of o was) entry
      may running entry (end, comes, is) =
          subst (λ (e : Entry). MayBeNext outside (moment_of o was) e × HasRoomFor (moment_of o was) e) (sym is) (
            (end_lawful outside bodies cloud_bodies o was task fit good running working end comes, closing_tells task end),
            closing_room (moment_of o was) task end,
          )
        where
          recorded : IsRecorded (moment_of o was) was
          recorded = good.recorded (book_goes_on was running).1

          working : works (moment_of o was) task ≡ true
          working = by (work_at was.book.records task) refl comes
            where
              by : (found : Option Work) → work_at was.book.records task ≡ found
                  → option_and_then (λ (work : Work). end_by was.book.records work.failed work) found ≡ Some end
                  → works (moment_of o was) task ≡ true
              by None is comes = absurd (let none = comes in cc)
              by (Some work) is comes =
                  working_is (moment_of o was) task (good.runs running).recovered
                  (subst (λ (known : Known). is_going known task ≡ true) recorded.agrees.known_is
                  (subst (IsWork recorded.told task) is (recorded.whole.stands.works task)).0)

  -- ---- the answer of a call

  pub settling_refused_good : (was now : Site K L k l) (call : HeldCall) (why : SiteFault) → IsFit outside o
      → IsGood outside bodies cloud_bodies o was → IsHeld was call → Refuses bodies faults was [] why now
      → now.calls.unsettled ≡ was.calls.unsettled
      → Pends was (IsAllowed (MayEnd was.book call.permit call.answer)
      (entries.End (record { n = call.permit.n; answer = call.answer }))) now → IsGood outside bodies cloud_bodies o now
  settling_refused_good was now call why fit good held refuses calls pends =
      refused_book_good outside bodies cloud_bodies o faults was now [] why fit good
      (left_still was now (IsAllowed (MayEnd was.book call.permit call.answer) ends) good calls pends
      (λ running entry is.
      subst (λ (e : Entry). MayBeNext outside (moment_of o was) e × HasRoomFor (moment_of o was) e) (sym is.1)
      ((held_may_end outside bodies cloud_bodies o was call good running held, tt), tt))) refuses
    where
      ends : Entry
      ends = entries.End (record { n = call.permit.n; answer = call.answer })

  -- .. and the call is given up
  pub settling_stopped_good : (was mid now : Site K L k l) (call : HeldCall) (why : SiteFault) → IsFit outside o
      → IsGood outside bodies cloud_bodies o was → IsHeld was call → Refuses bodies faults was [] why mid
      → mid.calls.unsettled ≡ was.calls.unsettled
      → Pends was (IsAllowed (MayEnd was.book call.permit call.answer)
      (entries.End (record { n = call.permit.n; answer = call.answer }))) mid
      → Abandons mid call.permit now → IsGood outside bodies cloud_bodies o now
  settling_stopped_good was mid now call why fit good held refuses calls pends abandons = by abandons
    where
      refused : IsGood outside bodies cloud_bodies o mid
      refused = settling_refused_good was mid call why fit good held refuses calls pends

      by : Abandons mid call.permit now → IsGood outside bodies cloud_bodies o now
      by (inl (current, gives)) = gives_up_good outside bodies cloud_bodies o mid now fit refused current.0 gives
      by (inr (other, same)) = same_parts_good outside bodies cloud_bodies o mid now refused same
