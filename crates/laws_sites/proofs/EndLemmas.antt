-- A site stays good as a task ends.
use Rattle.std.proofs.Common.{◌≡◌, ◌∙◌, ◌<◌, ◌≤◌, ℕ, Bool, true, false, List, [], ◌∷◌, Option, Some, None, arith, map, refl, subst, sym, inl, inr}
use Rattle.std.specs.Prelude.{◌&&◌, nat_le, nat_lt}
use Rattle.std.specs.Option.{option_and_then}
use Rattle.std.proofs.lemmas.Bool.{and_from, and_parts, leb-true, ltb-false, true≢false}
use Rattle.bosh_base.specs.declared.moves.Move.{Move}
use Rattle.bosh_base.specs.declared.moves.Move.TheVariants as moves
use Rattle.bosh_base.specs.declared.task.TaskEnd.{TaskEnd}
use Rattle.bosh_base.specs.declared.task.TaskEnd.TheVariants as ends
use Rattle.bosh_book.specs.Ends.{closing, coming_end, end_by}
use Rattle.bosh_book.specs.declared.book.Book.{Book}
use Rattle.bosh_calls.specs.CallsView.{CallsView}
use Rattle.bosh_history.specs.Fit.{IsFit}
use Rattle.bosh_history.specs.Held.{is_open}
use Rattle.bosh_history.specs.Known.{Known}
use Rattle.bosh_history.specs.Learn.{learn}
use Rattle.bosh_history.specs.Moments.{Moment, Opening, noting}
use Rattle.bosh_history.specs.Notes.{Outside}
use Rattle.bosh_history.specs.Permitted.{IsPermitted, IsRunFrom}
use Rattle.bosh_history.specs.Recovered.{is_recovering}
use Rattle.bosh_ports.specs.Rigged.{RigState}
use Rattle.bosh_ports.specs.declared.keeper.Keeper as keeper
use Rattle.bosh_records.specs.Readers.{work_at}
use Rattle.bosh_work.specs.declared.work.Work.{Work}
use Rattle.bosh_world.specs.Steps.{EndsTask, Notes}
use Rattle.bosh_world.specs.Told.{story_of}
use Rattle.bosh_world.specs.declared.site.Site.{Site}
use Rattle.laws_addresses.proofs.WorkLemmas.{less_works}
use Rattle.laws_facts.proofs.FrameLemmas.{numbers_done}
use Rattle.laws_facts.proofs.LockLemmas.{is_opening, note_stays}
use Rattle.laws_facts.proofs.WorkLemmas.{none_to}
use Rattle.laws_facts.specs.Owners.{works}
use Rattle.laws_held.proofs.HeldLemmas.{run_holds}
use Rattle.laws_sites.proofs.CallLemmas.{calls_on}
use Rattle.laws_sites.proofs.ChoiceLemmas.{closing_tells, end_lawful}
use Rattle.laws_sites.proofs.NoteLemmas.{OneMoreStands, noted_good, noted_recorded}
use Rattle.laws_sites.proofs.StepLemmas.{book_goes_on}
use Rattle.laws_sites.specs.Calls.{AreCalls, AreRising}
use Rattle.laws_sites.specs.Good.{GoesOn, IsGood, IsRecorded, moment_of}
use Rattle.laws_stands.specs.Stands.{IsWork}
use Rattle.laws_stands.specs.Told.{is_going}
use Rattle.laws_stands_fits.specs.Whole.{StandsWhole}
use Rattle.laws_tasks.proofs.RecoveredLemmas.{still_recovered}
use Rattle.laws_sites.proofs.CountLemmas.{HasRoomFor, calls_numbered, numbers_next}

-- once no task is left that a stop interrupted, each open task works
pub working_is : (m : Moment) (t : ℕ) → is_recovering m ≡ false → is_going m.known t ≡ true → works m t ≡ true
working_is m t recovered going = by (nat_lt m.stopped t) refl
  where
    parts : (nat_le 1 t ≡ true) × ((nat_le t m.known.tasks && is_open m.known t) ≡ true)
    parts = and_parts (nat_le 1 t) (nat_le t m.known.tasks && is_open m.known t) going

    by : (b : Bool) → nat_lt m.stopped t ≡ b → works m t ≡ true
    by true since = and_from (nat_lt m.stopped t) (nat_le t m.known.tasks && is_open m.known t) since parts.1
    by false before =
        absurd (true≢false (sym (and_parts (nat_le t m.known.tasks) (is_open m.known t) parts.1).1
        ∙ none_to (is_open m.known) m.stopped t recovered (leb-true 1 t parts.0) (ltb-false m.stopped t before)))

-- the end of a task leaves the open calls
closing_calls : (m : Moment) (t : ℕ) (end : TaskEnd) → (noting m (closing t end)).calls ≡ m.calls
closing_calls m t ends.Finished = refl
closing_calls m t (ends.Fault n method owner) = refl
closing_calls m t ends.Interrupted = refl
closing_calls m t (ends.Gone n method owner) = refl

-- it begins no call, and opens no task
pub closing_room : (m : Moment) (t : ℕ) (end : TaskEnd) → HasRoomFor m (closing t end)
closing_room m t ends.Finished = tt
closing_room m t (ends.Fault n method owner) = tt
closing_room m t ends.Interrupted = tt
closing_room m t (ends.Gone n method owner) = tt

module _ (one_more : OneMoreStands) {K L : Type 0} {k : keeper.Ghosts K} {l : keeper.Ghosts L}
    (bodies : K → Option (List (List ℕ))) (cloud_bodies : L → Option (List (List ℕ))) (faults : K → ℕ) (outside : Outside)
    (o : Opening) (was now : Site K L k l) (task : ℕ) (end : TaskEnd) (fit : IsFit outside o)
    (good : IsGood outside bodies cloud_bodies o was) (calls : now.calls ≡ was.calls) where
  abbrev m : Moment
  m = moment_of o was

  told_good : Notes bodies faults was [] None now → now.book ≡ was.book → IsGood outside bodies cloud_bodies o now
  told_good notes same =
      noted_good outside bodies cloud_bodies faults o was now [] good notes tt (λ read. recorded (good.recorded
      (book_goes_on was notes.running).1)) goes.recovered good.numbers
      (subst (λ (all : List Move). AreCalls all now.calls.unsettled m.calls) (sym notes.comes.story)
      (calls_on (story_of was) [] now.calls.unsettled m.calls
      (subst (λ (c : CallsView). AreCalls (story_of was) c.unsettled m.calls) (sym calls) goes.calls)))
      (subst (λ (c : CallsView). AreRising 0 c.unsettled) (sym calls) goes.rising)
    where
      goes : GoesOn bodies cloud_bodies m was
      goes = good.runs notes.running

      recorded : IsRecorded m was → IsRecorded m now
      recorded it = record {
        told = it.told;
        agrees = it.agrees;
        whole = subst (λ (b : Book (RigState K)). StandsWhole it.told b.records) (sym same) it.whole;
      }

  closed_good : coming_end was.book.records task ≡ Some end → Notes bodies faults was (closing task end ∷ []) None now
      → IsGood outside bodies cloud_bodies o now
  closed_good comes notes =
      noted_good outside bodies cloud_bodies faults o was now (closing task end ∷ []) good notes run
      (λ read. noted_recorded one_more outside bodies cloud_bodies faults o was now (closing task end ∷ []) None
      fit good notes run (calls_numbered m.known good.numbers, tt))
      (still_recovered outside m (run_holds outside o (story_of was) fit good.run).holds.known (closing task end) may.2
      goes.recovered)
      (numbers_next outside m (closing task end) may.2 (closing_room m task end) good.numbers)
      (subst (λ (all : List Move). AreCalls all now.calls.unsettled (noting m (closing task end)).calls)
      (sym notes.comes.story)
      (calls_on (story_of was) (moves.Note (closing task end) ∷ []) now.calls.unsettled (noting m (closing task end)).calls
      (subst (λ of_calls. AreCalls (story_of was) now.calls.unsettled of_calls) (sym (closing_calls m task end))
      (subst (λ (c : CallsView). AreCalls (story_of was) c.unsettled m.calls) (sym calls) goes.calls))))
      (subst (λ (c : CallsView). AreRising 0 c.unsettled) (sym calls) goes.rising)
    where
      goes : GoesOn bodies cloud_bodies m was
      goes = good.runs notes.running

      recorded : IsRecorded m was
      recorded = good.recorded (book_goes_on was notes.running).1

      working : works m task ≡ true
      working = by (work_at was.book.records task) refl comes
        where
          by : (found : Option Work) → work_at was.book.records task ≡ found
              → option_and_then (λ (work : Work). end_by was.book.records work.failed work) found ≡ Some end
              → works m task ≡ true
          by None is comes = absurd (let none = comes in cc)
          by (Some work) is comes =
              working_is m task goes.recovered
              (subst (λ (known : Known). is_going known task ≡ true) recorded.agrees.known_is
              (subst (IsWork recorded.told task) is (recorded.whole.stands.works task)).0)

      may : IsPermitted outside m (moves.Note (closing task end))
      may = end_lawful outside bodies cloud_bodies o was task fit good notes.running working end comes

      run : IsRunFrom outside m (map moves.Note (closing task end ∷ []))
      run = (may, tt, closing_tells task end)

  pub ended_good : EndsTask bodies faults was task end now → IsGood outside bodies cloud_bodies o now
  ended_good (inl (told, notes, same)) = told_good notes same
  ended_good (inr (none, comes, notes)) = closed_good comes notes
