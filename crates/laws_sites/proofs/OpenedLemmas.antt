-- A site stays good as a task opens that may, and where that is refused.
use Rattle.std.proofs.Common.{◌≡◌, ◌∙◌, ◌<◌, ◌≤◌, ℕ, false, List, [], ◌∷◌, Option, None, arith, map, subst, sym}
use Rattle.std.specs.Prelude.{not, ◌||◌}
use Rattle.bosh_asks.specs.declared.ask.Ask.{Ask}
use Rattle.bosh_base.specs.declared.entry.Entry.{Entry}
use Rattle.bosh_base.specs.declared.entry.Entry.TheVariants as entries
use Rattle.bosh_base.specs.declared.entry.TaskOpen.{TaskOpen}
use Rattle.bosh_base.specs.declared.moves.Move.{Move}
use Rattle.bosh_base.specs.declared.moves.Move.TheVariants as moves
use Rattle.bosh_book.specs.Opens.{IsOpeningOf}
use Rattle.bosh_book.specs.Running.{is_full}
use Rattle.bosh_calls.specs.CallsView.{CallsView}
use Rattle.bosh_history.specs.Fit.{IsFit}
use Rattle.bosh_history.specs.Moments.{Moment, Opening}
use Rattle.bosh_history.specs.Notes.{MayNote, Outside}
use Rattle.bosh_history.specs.Openings.{HasSource}
use Rattle.bosh_history.specs.Permitted.{IsRunFrom}
use Rattle.bosh_history.specs.Recovered.{is_interruption}
use Rattle.bosh_ports.specs.declared.keeper.Keeper as keeper
use Rattle.bosh_world.specs.Pending.{IsOpening, Pends}
use Rattle.bosh_world.specs.Refuses.{Refuses}
use Rattle.bosh_world.specs.Steps.{OpensTask}
use Rattle.bosh_world.specs.Told.{story_of}
use Rattle.bosh_world.specs.declared.fault.SiteFault.{SiteFault}
use Rattle.bosh_world.specs.declared.site.Site.{Site}
use Rattle.laws_held.proofs.HeldLemmas.{run_holds}
use Rattle.laws_sites.proofs.CallLemmas.{calls_on}
use Rattle.laws_sites.proofs.MomentLemmas.{MayBeNext}
use Rattle.laws_sites.proofs.NoteLemmas.{OneMoreStands, noted_good, noted_recorded}
use Rattle.laws_sites.proofs.NumberLemmas.{numbers_left, tasks_left, opened_left}
use Rattle.laws_sites.proofs.OpeningLemmas.{task_may_open}
use Rattle.laws_sites.proofs.StepLemmas.{book_goes_on}
use Rattle.laws_sites.proofs.StoppedLemmas.{left_still, refused_book_good}
use Rattle.laws_sites.specs.Calls.{AreCalls, AreRising}
use Rattle.laws_sites.specs.Good.{GoesOn, IsGood, IsRecorded, moment_of}
use Rattle.laws_tasks.proofs.RecoveredLemmas.{still_recovered}
use Rattle.laws_views.specs.Planned.{IsChecked}
use Rattle.laws_views.proofs.HistoryLemmas.{run_viewed}
use Rattle.laws_sites.proofs.CountLemmas.{HasRoomFor, calls_numbered, numbers_next}

module _ {K L : Type 0} {k : keeper.Ghosts K} {l : keeper.Ghosts L} (outside : Outside) (bodies : K → Option (List (List ℕ)))
    (cloud_bodies : L → Option (List (List ℕ))) (faults : K → ℕ) (o : Opening) (was now : Site K L k l)
    (fit : IsFit outside o) (good : IsGood outside bodies cloud_bodies o was) (calls : now.calls ≡ was.calls) where
  abbrev m : Moment
  m = moment_of o was

  opening_next : (opening : TaskOpen) → was.history.is_halted ≡ false → MayNote outside m (entries.TaskOpen opening)
      × HasSource (entries.TaskOpen opening) → MayBeNext outside m (entries.TaskOpen opening)
  opening_next opening running may = (
    (
      good.halted ∙ running,
      (λ i. not ((good.runs running).recovered i) || is_interruption (entries.TaskOpen opening)),
      may.0,
    ),
    may.1,
  )

  -- as long as there is room
  fewer : (n : ℕ) → n < 4611686018427387904 → n < 18446744073709551615
  fewer n less = omega arith

  -- what opens by the records may be noted
  may_note : (ask : Ask) → IsChecked ask → is_full was.book ≡ false → was.history.is_halted ≡ false → (opening : TaskOpen)
      → IsOpeningOf was.book.records ask opening
      → MayNote outside m (entries.TaskOpen opening) × HasSource (entries.TaskOpen opening)
  may_note ask checked room running =
      let it : IsRecorded m was = good.recorded (book_goes_on was running).1 in
      task_may_open outside m it.told was.book.records it.whole.stands it.agrees
      (run_holds outside o (story_of was) fit good.run).holds.known
      (fewer was.book.records.opened (opened_left was.book room))
      (good.runs running).recovered (run_viewed outside o (story_of was) fit good.run) ask checked

  pub task_good : (one_more : OneMoreStands) (ask : Ask) (task : ℕ) → IsChecked ask
      → OpensTask bodies faults was ask task now → IsGood outside bodies cloud_bodies o now
  task_good one_more ask task checked opens =
      noted_good outside bodies cloud_bodies faults o was now (entries.TaskOpen opens.opening ∷ []) good opens.notes run
      (λ read. noted_recorded one_more outside bodies cloud_bodies faults o was now (entries.TaskOpen opens.opening ∷ []) None
      fit good opens.notes run
      (calls_numbered m.known good.numbers, tt))
      (still_recovered outside m (run_holds outside o (story_of was) fit good.run).holds.known
      (entries.TaskOpen opens.opening) next.0.2 goes.recovered)
      (numbers_next outside m (entries.TaskOpen opens.opening) next.0.2 room good.numbers)
      (subst (λ (all : List Move). AreCalls all now.calls.unsettled m.calls) (sym opens.notes.comes.story)
      (calls_on (story_of was) (moves.Note (entries.TaskOpen opens.opening) ∷ []) now.calls.unsettled m.calls
      (subst (λ (c : CallsView). AreCalls (story_of was) c.unsettled m.calls) (sym calls) goes.calls)))
      (subst (λ (c : CallsView). AreRising 0 c.unsettled) (sym calls) goes.rising)
    where
      goes : GoesOn bodies cloud_bodies m was
      goes = good.runs opens.notes.running

      next : MayBeNext outside m (entries.TaskOpen opens.opening)
      next = opening_next opens.opening opens.notes.running
          (may_note ask checked opens.has_room opens.notes.running opens.opening opens.is_opening)

      run : IsRunFrom outside m (map moves.Note (entries.TaskOpen opens.opening ∷ []))
      run = (next.0, tt, next.1)

      room : m.known.tasks < 4611686018427387904
      room = tasks_left outside bodies cloud_bodies o was good opens.notes.running opens.has_room

  pub task_refused : (ask : Ask) (why : SiteFault) → IsChecked ask → Refuses bodies faults was [] why now
      → Pends was (IsOpening was.book ask) now → IsGood outside bodies cloud_bodies o now
  task_refused ask why checked refuses pends =
      refused_book_good outside bodies cloud_bodies o faults was now [] why fit good
      (left_still bodies cloud_bodies faults outside o was now (IsOpening was.book ask) good
      (λ i. (calls i).unsettled) pends may) refuses
    where
      may : was.history.is_halted ≡ false → (entry : Entry) → IsOpening was.book ask entry
          → MayBeNext outside m entry × HasRoomFor m entry
      may running entry (opening, is, room, same) =
          subst (λ (e : Entry). MayBeNext outside m e × HasRoomFor m e) (sym same) (
            opening_next opening running (may_note ask checked room running opening is),
            tasks_left outside bodies cloud_bodies o was good running room,
          )
