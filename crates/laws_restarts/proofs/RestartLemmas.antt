-- A good site that starts anew is good.
use Rattle.std.proofs.Common.{◌≡◌, ◌∙◌, ◌<◌, ◌≤◌, ℕ, ◌+◌, ◌-◌, Bool, true, false, List, [], ◌∷◌, ◌++◌, Option, Some, None, Result, Ok, Err}
use Rattle.std.proofs.Common.{ap, append-nil, append_assoc, arith, drop, inl, inr, length, length-append, map, min, refl, subst, sym}
use Rattle.std.specs.Prelude.{◌≢◌, ◌⊎◌, OnOk, fold, is_ok, is_some}
use Rattle.std.specs.List.{filter_map}
use Rattle.std.proofs.lemmas.Bool.{false≢true}
use Rattle.bosh_asks.specs.declared.fault.BookFault.{BookFault}
use Rattle.bosh_asks.specs.declared.fault.BookFault.TheVariants as book
use Rattle.bosh_base.specs.declared.entry.Entry.{Entry}
use Rattle.bosh_base.specs.declared.moves.Cause.{Cause}
use Rattle.bosh_base.specs.declared.moves.Move.{Move}
use Rattle.bosh_base.specs.declared.moves.Move.TheVariants as moves
use Rattle.bosh_base.specs.declared.moves.Stop as stop
use Rattle.bosh_book.specs.Faults.{FailsAs, IsQuiet}
use Rattle.bosh_book.specs.Folds.{IsRead}
use Rattle.bosh_book.specs.Starts.{AreInterrupted, AreInterruptedWhere, ComesOut, Finishes, IsNextPending, Takes, open_tasks}
use Rattle.bosh_book.specs.Starts as starting
use Rattle.bosh_book.specs.declared.book.Book.{Book}
use Rattle.bosh_book.specs.declared.standing.Standing.{Standing}
use Rattle.bosh_book.specs.declared.standing.Standing.TheVariants.{Running, Unread}
use Rattle.bosh_cloud.specs.Loading as cloud
use Rattle.bosh_fold.specs.Learns.{LearnsAll}
use Rattle.bosh_history.proofs.StoredLemmas.{stored_itself}
use Rattle.bosh_history.specs.Fit.{AreStoredAs, IsFit, has_numbers}
use Rattle.bosh_history.specs.Known.{Known}
use Rattle.bosh_history.specs.Learn.{known_of}
use Rattle.bosh_history.specs.Moments.{Moment, Opening, durable, durable_entry, later, moment, noting}
use Rattle.bosh_history.specs.Notes.{Outside}
use Rattle.bosh_history.specs.Permitted.{IsRun, IsRunFrom}
use Rattle.bosh_history.specs.Recovered.{is_recovering}
use Rattle.bosh_journal.specs.Appends.{added}
use Rattle.bosh_journal.specs.JournalView.{JournalView}
use Rattle.bosh_journal.specs.Kept as journal
use Rattle.bosh_moves.specs.Found.{kept_at, stop_of}
use Rattle.bosh_moves.specs.Story.{effects_after, effects_told, halts}
use Rattle.bosh_ports.specs.Rigged.{RigState, broken_of, faults_of}
use Rattle.bosh_ports.specs.declared.keeper.Keeper as keeper
use Rattle.bosh_world.proofs.SiteRestartLemmas.{after_stop}
use Rattle.bosh_world.specs.Restarts.{Restarts, first_halt, has_found_entry, read_count, restart_moves}
use Rattle.bosh_world.specs.Steps.{bodies_of}
use Rattle.bosh_world.specs.Told.{story_of}
use Rattle.bosh_world.specs.declared.site.Site.{Site}
use Rattle.laws_held.proofs.HeldLemmas.{run_holds}
use Rattle.laws_held.specs.Whole.{Whole}
use Rattle.laws_read.proofs.ReadLemmas.{read_stands, rest_agrees}
use Rattle.laws_read.specs.AtRest.{StandsAtRest}
use Rattle.laws_recovery.proofs.OpenLemmas.{moment_ended, open_end, recovered_then}
use Rattle.laws_recovery.specs.Interrupted.{interruption, interruptions, open_at}
use Rattle.laws_restarts.proofs.HaltedLemmas as halted
use Rattle.laws_restarts.proofs.HaltedLemmas.{done_in, found_in, holds_read, tells_done}
use Rattle.laws_restarts.proofs.SeenLemmas.{IsSeen, durable_restart, seen}
use Rattle.laws_restarts.proofs.StopLemmas.{stop_read}
use Rattle.laws_sites.proofs.ClaimLemmas.{run_then}
use Rattle.laws_sites.proofs.CountLemmas.{calls_numbered}
use Rattle.laws_sites.proofs.ExplainLemmas.{MayPend, explained}
use Rattle.laws_sites.proofs.FoundOpenLemmas.{open_found}
use Rattle.laws_sites.proofs.HaltLemmas.{may_come_none, may_pend_none}
use Rattle.laws_sites.proofs.MomentLemmas.{later_from, run_from}
use Rattle.laws_sites.proofs.NoteLemmas.{HaveNumbers, all_stand, effects_noted, halted_noted}
use Rattle.laws_sites.proofs.NotedHaltLemmas.{pending_stopped, whole_noted}
use Rattle.laws_sites.proofs.StepLemmas.{IsAfter, good_on, stopped}
use Rattle.laws_sites.specs.Calls.{AreCalls, AreRising}
use Rattle.laws_sites.specs.Good.{FindsIn, GoesOn, HasHalted, IsGood, IsLeft, IsLeftOf, IsRecorded, SayDone, listed, moment_of}
use Rattle.laws_stands.specs.Agrees.{Agrees}
use Rattle.laws_stands.specs.Told.{Told, telling}
use Rattle.laws_stands_fits.specs.Whole.{StandsWhole}
use Rattle.laws_stands_kept.proofs.KeptLemmas.{one_more_stands}
use Rattle.laws_stands_noted.proofs.AgreesLemmas.{move_agrees}
use Rattle.std.proofs.lemmas.List.{map-append}

-- ---- entries that end tasks

numbers_on : (m : Moment) (tasks : List ℕ) → m.known.last_call < 18446744073709551615
    → HaveNumbers m (interruptions tasks)
numbers_on m [] few = tt
numbers_on m (t ∷ more) few = (few, numbers_on (noting m (interruption t)) more few)

numbers_ended : (m : Moment) (tasks : List ℕ) → has_numbers m.known ≡ true
    → has_numbers (fold later m (map moves.Note (interruptions tasks))).known ≡ true
numbers_ended m tasks numbers = (λ i. has_numbers (moment_ended m tasks i).known) ∙ numbers

front_length : (xs ys : List Entry) → length (xs ++ ys) - length ys ≡ length xs
front_length xs ys = by (length (xs ++ ys)) (length xs) (length ys) (length-append xs ys)
  where
    by : (n a b : ℕ) → n ≡ a + b → n - b ≡ a
    by n a b is = omega arith

module _ {K L : Type 0} {k : keeper.Ghosts K} {l : keeper.Ghosts L} (outside : Outside) (bodies : K → Option (List (List ℕ)))
    (faults : K → ℕ) (is_broken : K → Bool) (cloud_bodies : L → Option (List (List ℕ))) (cloud_faults : L → ℕ) (o : Opening)
    (was now : Site K L k l) (fit : IsFit outside o) (good : IsGood outside bodies cloud_bodies o was)
    (started : Result (Unit {0}) BookFault) (halt : Option Cause)
    (restarts : Restarts bodies faults is_broken cloud_bodies cloud_faults was started halt now) where
  -- ---- what was read

  abbrev read : List Entry
  read = restarts.book.first.journal.entries

  at_halt : HasHalted outside bodies cloud_bodies (halted.at_halt outside bodies cloud_bodies o was good) was
  at_halt = halted.halt_explained outside bodies cloud_bodies o was good

  kept : IsLeftOf outside (halted.at_halt outside bodies cloud_bodies o was good) was.book.journal.entries read
  kept = found_in (bodies_of bodies was.book.journal.store)
      (IsLeftOf outside (halted.at_halt outside bodies cloud_bodies o was good) was.book.journal.entries) read at_halt.book
      restarts.book.reads.says at_halt.present

  left : IsLeft outside (halted.at_halt outside bodies cloud_bodies o was good) now.cloud.effects
  left = done_in (cloud_bodies was.cloud.store) (IsLeft outside (halted.at_halt outside bodies cloud_bodies o was good))
      now.cloud.effects at_halt.cloud restarts.cloud.reads.says

  abbrev the_stop : stop.Stop
  the_stop = record { kept = kept.0; took = left.1; wrote = left.0 }

  abbrev after : Moment
  after = halted.after outside bodies cloud_bodies o was good fit read now.cloud.effects kept left

  abbrev session : List Move
  session = halted.session outside bodies cloud_bodies o was good fit read now.cloud.effects kept left

  run : IsRun outside o session
  run = halted.run outside bodies cloud_bodies o was good fit read now.cloud.effects kept left

  moment_is : moment o session ≡ after
  moment_is = halted.moment_is outside bodies cloud_bodies o was good fit read now.cloud.effects kept left

  known_after : after.known ≡ known_of read
  known_after = halted.known_after outside bodies cloud_bodies o was good fit read now.cloud.effects kept left

  numbers_after : has_numbers after.known ≡ true
  numbers_after = ap has_numbers known_after
      ∙ halted.numbers_after outside bodies cloud_bodies o was good fit read now.cloud.effects kept left

  whole_after : Whole after
  whole_after = subst Whole moment_is (run_holds outside o session fit run)

  first_kept : journal.IsKept (bodies_of bodies) restarts.book.first.journal
  first_kept = holds_read (bodies_of bodies was.book.journal.store) (bodies_of bodies restarts.book.first.journal.store) read
      at_halt.present restarts.book.reads.says restarts.book.reads.list restarts.book.first.journal.is_broken
      restarts.book.first.journal.pending restarts.book.whole

  cloud_kept : cloud.IsKept cloud_bodies now.cloud
  cloud_kept = tells_done cloud_bodies was.cloud.store now.cloud.store now.cloud.effects
      (weaker (cloud_bodies was.cloud.store) at_halt.cloud) restarts.cloud.reads.says restarts.cloud.reads.list
      now.cloud.is_stale now.cloud.pending restarts.cloud.whole
    where
      weaker : (told : Option (List (List ℕ)))
          → FindsIn told SayDone (IsLeft outside (halted.at_halt outside bodies cloud_bodies o was good))
          → FindsIn told SayDone (λ _. Unit {0})
      weaker (Some list) finds = λ found says. tt
      weaker None finds = absurd finds

  -- ---- what was noted

  -- these tasks were ended, and then others were to be
  record Ends (ended : List Entry) (rest : List ℕ) : Type 0 where
    done : List ℕ
    are_ended : ended ≡ interruptions done
    may : IsRunFrom outside after (map moves.Note ended)
    may_rest : IsRunFrom outside (fold later after (map moves.Note ended)) (map moves.Note (interruptions rest))

  ends : (done rest : List ℕ) (ended : List Entry) → ended ≡ interruptions done
      → IsRunFrom outside after (map moves.Note (interruptions (done ++ rest))) → Ends ended rest
  ends done rest ended are may = record {
    done = done;
    are_ended = are;
    may = subst (λ (es : List Entry). IsRunFrom outside after (map moves.Note es)) (sym are) parts.0;
    may_rest = subst (λ (es : List Entry). IsRunFrom outside (fold later after (map moves.Note es))
        (map moves.Note (interruptions rest))) (sym are) parts.1;
  }
    where
      parts : IsRunFrom outside after (map moves.Note (interruptions done))
          × IsRunFrom outside (fold later after (map moves.Note (interruptions done))) (map moves.Note (interruptions rest))
      parts = run_then outside after (interruptions done) (interruptions rest)
          (subst (λ (es : List Entry). IsRunFrom outside after (map moves.Note es)) (map-append interruption done rest) may)

  -- ---- the site

  module _ (mid : Book (RigState K)) (taken : Result (Unit {0}) BookFault)
      (takes : Takes (bodies_of bodies) (faults_of faults) false restarts.book.first taken mid)
      (finishes : Finishes (bodies_of bodies) (faults_of faults) mid taken started now.book) (rest : List ℕ)
      (it : Ends finishes.ended rest) where
    abbrev ended : List Entry
    ended = finishes.ended

    abbrev last : Moment
    last = fold later after (map moves.Note ended)

    entries_are : now.book.journal.entries ≡ (was.book.journal.entries ++ listed kept.0) ++ ended
    entries_are = finishes.entries ∙ (λ i. (takes.taken ∙ kept.4) i ++ ended)

    read_is : read_count now.book ≡ length (was.book.journal.entries ++ listed kept.0)
    read_is =
        (λ i. read_count (record now.book { mended = finishes.mended i }))
        ∙ ap (λ (es : List Entry). length es - length ended) entries_are
        ∙ front_length (was.book.journal.entries ++ listed kept.0) ended

    sees : IsSeen was.book.journal.entries now.book.journal.entries (read_count now.book) kept.0 ended
    sees = seen was.book.journal.entries now.book.journal.entries (read_count now.book) kept.0 ended entries_are read_is

    told_is : effects_told was.history was.cloud.effects
        ≡ length (halted.at_halt outside bodies cloud_bodies o was good).effects
    told_is = good.told ∙ ap (λ (es : List Entry). length es)
        (sym (halted.same_effects outside bodies cloud_bodies o was good))

    stop_is : stop_of (kept_at (has_found_entry was now.book) now.book.journal.entries (length was.book.journal.entries))
        (drop (effects_told was.history was.cloud.effects) now.cloud.effects) ≡ the_stop
    stop_is =
        (λ i. stop_of (sees.kept_is i) (drop (told_is i) now.cloud.effects))
        ∙ stop_read outside (halted.at_halt outside bodies cloud_bodies o was good) now.cloud.effects kept.0
        (halted.numbered outside bodies cloud_bodies o was good fit read now.cloud.effects kept left) left

    abbrev more : List Move
    more = first_halt was.history.is_halted ++ (moves.Stop the_stop ∷ map moves.Note ended ++ halts halt)

    story : story_of now ≡ story_of was ++ more
    story = restarts.comes.story
        ∙ (λ i. story_of was ++ (first_halt was.history.is_halted ++ (moves.Stop (stop_is i)
        ∷ map moves.Note (sees.noted_is i) ++ halts halt)))

    told : effects_told now.history now.cloud.effects ≡ length now.cloud.effects
    told = restarts.comes.told
        ∙ after_stop was.history.is_halted _ _ halt (length now.cloud.effects)
        (effects_told was.history was.cloud.effects)

    last_is : fold later (moment_of o was) more ≡ fold later last (halts halt)
    last_is =
        later_from (moment_of o was) (first_halt was.history.is_halted)
        (moves.Stop the_stop ∷ map moves.Note ended ++ halts halt)
        ∙ later_from after (map moves.Note ended) (halts halt)

    runs_last : last.halted ≡ false
    runs_last = halted_noted after ended

    may_halt : (halt : Option Cause) → IsRunFrom outside last (halts halt)
    may_halt None = tt
    may_halt (Some cause) = (runs_last, tt, tt)

    may : IsRunFrom outside (moment_of o was) more
    may = run_from outside (moment_of o was) (first_halt was.history.is_halted)
        (moves.Stop the_stop ∷ map moves.Note ended ++ halts halt)
        (halted.halt_run outside bodies cloud_bodies o was good) (
          stop_run.0,
          run_from outside after (map moves.Note ended) (halts halt) it.may (may_halt halt),
          stop_run.2,
        )
      where
        stop_run : IsRunFrom outside (halted.at_halt outside bodies cloud_bodies o was good) (moves.Stop the_stop ∷ [])
        stop_run = halted.stop_run outside bodies cloud_bodies o was good fit read now.cloud.effects kept left

    effects_last : last.effects ≡ now.cloud.effects
    effects_last = effects_noted after ended
        ∙ halted.effects_after outside bodies cloud_bodies o was good fit read now.cloud.effects kept left

    numbers_last : has_numbers last.known ≡ true
    numbers_last = subst (λ (es : List Entry). has_numbers (fold later after (map moves.Note es)).known ≡ true)
        (sym it.are_ended) (numbers_ended after it.done numbers_after)

    book_kept : journal.IsKept (bodies_of bodies) now.book.journal
    book_kept = finishes.kept (takes.kept first_kept)

    -- what is good of it then
    good_after : IsAfter outside bodies cloud_bodies (fold later last (halts halt)) now
        → IsGood outside bodies cloud_bodies o now
    good_after it_is =
        good_on outside bodies cloud_bodies o was now more good story restarts.same_opening may
        (entries_are ∙ append_assoc was.book.journal.entries (listed kept.0) ended
        ∙ ap (λ (es : List Entry). was.book.journal.entries ++ es)
        (sym (durable_restart was.history.is_halted kept.0 left.1 left.0 ended halt)))
        (subst (λ (m : Moment). IsAfter outside bodies cloud_bodies m now) (sym last_is) it_is)

    -- the store failed as the next task was to be ended, or it did not fail
    abbrev Pends : Type 0
    Pends = MayPend outside (stopped last) now.book.journal.is_broken now.book.journal.pending

    halts_again : Pends → HasHalted outside bodies cloud_bodies (stopped last) now
    halts_again pends = explained outside bodies cloud_bodies (stopped last) now (record {
      wrote = None;
      took = [];
      may_write = tt;
      may_take = tt;
      effects = sym effects_last;
      may_come = may_come_none outside (stopped last) None [] now.cloud.is_stale now.cloud.pending restarts.cloud.whole;
      may_pend = pends;
      numbers = numbers_last;
      book_kept = book_kept;
      cloud_kept = cloud_kept;
    })

    -- ---- it was taken in: the records stand

    module _ (is_read : IsRead read mid.records) where
      rest_stands : StandsAtRest (known_of read) mid.records
      rest_stands = read_stands outside o session read mid.records fit run
          (subst (AreStoredAs read)
          (sym (halted.durable_is outside bodies cloud_bodies o was good fit read now.cloud.effects kept left))
          (stored_itself read))
          (calls_numbered (known_of read)
          (halted.numbers_after outside bodies cloud_bodies o was good fit read now.cloud.effects kept left)) is_read

      agrees : Agrees after rest_stands.told
      agrees = rest_agrees after rest_stands.told (rest_stands.known_is ∙ sym known_after) (λ n. refl) refl rest_stands.at_rest

      recorded : IsRecorded last now
      recorded = record { told = fold telling rest_stands.told ended; agrees = both.1; whole = both.0 }
        where
          both : StandsWhole (fold telling rest_stands.told ended) now.book.records
              × Agrees last (fold telling rest_stands.told ended)
          both = all_stand one_more_stands outside after rest_stands.told mid.records now.book.records ended whole_after
              rest_stands.whole agrees it.may
              (subst (HaveNumbers after) (sym it.are_ended)
              (numbers_on after it.done (calls_numbered after.known numbers_after)))
              finishes.learns

  -- ---- the tasks that were open

  module _ (mid : Book (RigState K)) (is_read : IsRead read mid.records) where
    open_are : open_tasks mid.records ≡ open_at after.known
    open_are = open_found after it.told mid.records it.whole.stands (it.known_is ∙ sym known_after)
        whole_after.holds.known.lists
      where
        it : StandsAtRest (known_of read) mid.records
        it = read_stands outside o session read mid.records fit run
            (subst (AreStoredAs read)
            (sym (halted.durable_is outside bodies cloud_bodies o was good fit read now.cloud.effects kept left))
            (stored_itself read))
            (calls_numbered (known_of read)
            (halted.numbers_after outside bodies cloud_bodies o was good fit read now.cloud.effects kept left)) is_read

    all_end : IsRunFrom outside after (map moves.Note (interruptions (open_at after.known)))
    all_end = open_end outside after refl refl refl

    front_ends : (done rest : List ℕ) (ended : List Entry) → open_tasks mid.records ≡ done ++ rest
        → ended ≡ map starting.interruption done → Ends ended rest
    front_ends done rest ended parted are = ends done rest ended are
        (subst (λ (tasks : List ℕ). IsRunFrom outside after (map moves.Note (interruptions tasks)))
        (sym open_are ∙ parted) all_end)

  -- ---- it goes on

  -- its store did not fail
  not_broken : now.book.journal.is_broken ≡ restarts.book.first.journal.is_broken → now.book.journal.is_broken ≡ false
  not_broken same = same ∙ restarts.book.whole

  module _ (mid : Book (RigState K)) (value : Unit {0})
      (takes : Takes (bodies_of bodies) (faults_of faults) false restarts.book.first (Ok value) mid)
      (finishes : Finishes (bodies_of bodies) (faults_of faults) mid (Ok value) started now.book)
      (all : finishes.ended ≡ map starting.interruption (open_tasks mid.records)) where
    all_ended : Ends finishes.ended []
    all_ended = front_ends mid takes.reads (open_tasks mid.records) [] finishes.ended
        (sym (append-nil (open_tasks mid.records))) all

    abbrev the_last : Moment
    the_last = fold later after (map moves.Note finishes.ended)

    recovered : is_recovering the_last ≡ false
    recovered = subst (λ (es : List Entry). is_recovering (fold later after (map moves.Note es)) ≡ false)
        (sym (all ∙ ap interruptions (open_are mid takes.reads))) (recovered_then after refl)

    calls_last : the_last.calls ≡ (λ n. None)
    calls_last = (λ i. (fold later after (map moves.Note (all_ended.are_ended i))).calls)
        ∙ ap (λ (m : Moment). m.calls) (moment_ended after all_ended.done)

    goes_on : GoesOn bodies cloud_bodies the_last now
    goes_on = record {
      recovered = recovered;
      effects = sym (effects_last mid (Ok value) takes finishes [] all_ended);
      calls = subst (λ unsettled. AreCalls (story_of now) unsettled the_last.calls) (sym restarts.no_calls)
          (subst (λ calls. AreCalls (story_of now) [] calls) (sym calls_last) (λ n. tt));
      rising = subst (AreRising 0) (sym restarts.no_calls) tt;
      book_kept = book_kept mid (Ok value) takes finishes [] all_ended;
      cloud_kept = cloud_kept;
    }

    went_on : halt ≡ None → IsGood outside bodies cloud_bodies o now
    went_on none =
        good_after mid (Ok value) takes finishes [] all_ended
        (subst (λ (h : Option Cause). IsAfter outside bodies cloud_bodies (fold later the_last (halts h)) now) (sym none)
        (record {
          halted = runs_last mid (Ok value) takes finishes [] all_ended ∙ sym running;
          numbers = numbers_last mid (Ok value) takes finishes [] all_ended;
          told = told mid (Ok value) takes finishes [] all_ended
              ∙ ap (λ (es : List Entry). length es) (sym (effects_last mid (Ok value) takes finishes [] all_ended));
          recorded = λ standing. recorded mid (Ok value) takes finishes [] all_ended takes.reads;
          runs = λ is. goes_on;
          halts = λ is. absurd (false≢true (sym running ∙ is));
        }))
      where
        running : now.history.is_halted ≡ false
        running = restarts.halted ∙ ap (λ (h : Option Cause). is_some h) none

  pub goes_on_good : started ≡ Ok tt → halt ≡ None → IsGood outside bodies cloud_bodies o now
  goes_on_good is none =
      by restarts.book.starts.taken restarts.book.starts.mid restarts.book.starts.takes restarts.book.starts.finishes
      (subst (λ (s : Result (Unit {0}) BookFault). OnOk s (is_ok restarts.book.starts.taken ≡ true)) is
      restarts.book.starts.all_taken)
    where
      by : (taken : Result (Unit {0}) BookFault) (mid : Book (RigState K))
          → Takes (bodies_of bodies) (faults_of faults) false restarts.book.first taken mid
          → Finishes (bodies_of bodies) (faults_of faults) mid taken started now.book → is_ok taken ≡ true
          → IsGood outside bodies cloud_bodies o now
      by (Err fault) mid takes finishes ok = absurd (false≢true ok)
      by (Ok value) mid takes finishes ok =
          went_on mid value takes finishes
          (subst (λ (s : Result (Unit {0}) BookFault). AreInterrupted s (open_tasks mid.records) finishes.ended now.book.journal)
          is finishes.are_ended) none

  -- ---- it halts again

  module _ (cause : Cause) (halts_so : halt ≡ Some cause) (mid : Book (RigState K)) (taken : Result (Unit {0}) BookFault)
      (takes : Takes (bodies_of bodies) (faults_of faults) false restarts.book.first taken mid)
      (finishes : Finishes (bodies_of bodies) (faults_of faults) mid taken started now.book) (rest : List ℕ)
      (it : Ends finishes.ended rest) where
    halted_again : (now.book.standing ≢ Unread → IsRecorded (last mid taken takes finishes rest it) now)
        → Pends mid taken takes finishes rest it → IsGood outside bodies cloud_bodies o now
    halted_again recorded_so pends =
        good_after mid taken takes finishes rest it
        (subst (λ (h : Option Cause). IsAfter outside bodies cloud_bodies
        (fold later (last mid taken takes finishes rest it) (halts h)) now) (sym halts_so) (record {
          halted = sym halted_now;
          numbers = numbers_last mid taken takes finishes rest it;
          told = told mid taken takes finishes rest it
              ∙ ap (λ (es : List Entry). length es) (sym (effects_last mid taken takes finishes rest it));
          recorded = λ standing. at_stop (recorded_so standing);
          runs = λ running. absurd (false≢true (sym running ∙ halted_now));
          halts = λ is. halts_again mid taken takes finishes rest it pends;
        }))
      where
        halted_now : now.history.is_halted ≡ true
        halted_now = restarts.halted ∙ ap (λ (h : Option Cause). is_some h) halts_so

        whole_last : Whole (last mid taken takes finishes rest it)
        whole_last = whole_noted outside after finishes.ended whole_after it.may

        at_stop : IsRecorded (last mid taken takes finishes rest it) now
            → IsRecorded (stopped (last mid taken takes finishes rest it)) now
        at_stop is = record {
          told = is.told;
          agrees = move_agrees outside (last mid taken takes finishes rest it) is.told (moves.Halt cause) is.agrees
              whole_last.holds.known is.whole.stands.tells_well (runs_last mid taken takes finishes rest it);
          whole = is.whole;
        }

    -- the start was refused: the records are to be read
    unread : (fault : BookFault) → started ≡ Err fault → now.book.standing ≢ Unread
        → IsRecorded (last mid taken takes finishes rest it) now
    unread fault is read_so =
        absurd (read_so (restarts.book.standing ∙ ap (starting.standing_after {T = Unit {0}}) is))

  -- a refusal that is no fault of the store
  quiet : (s : Result (Unit {0}) BookFault) → (s ≡ Err book.StoreFault → ⊥)
      → FailsAs (faults_of faults) s restarts.book.first.journal now.book.journal
      → now.book.journal.is_broken ≡ restarts.book.first.journal.is_broken
  quiet (Err book.StoreFault) not fails = absurd (not refl)
  quiet s not fails = fails

  none_pends : (m : Moment) → (started ≡ Err book.StoreFault → ⊥)
      → MayPend outside (stopped m) now.book.journal.is_broken now.book.journal.pending
  none_pends m not = may_pend_none outside (stopped m) now.book.journal.is_broken now.book.journal.pending
      (not_broken (quiet started not restarts.book.fails))

  pub halts_good : (cause : Cause) → halt ≡ Some cause → IsGood outside bodies cloud_bodies o now
  halts_good cause halts_so =
      by restarts.book.starts.taken restarts.book.starts.mid restarts.book.starts.takes restarts.book.starts.finishes
      restarts.book.starts.comes_out
    where
      by : (taken : Result (Unit {0}) BookFault) (mid : Book (RigState K))
          → Takes (bodies_of bodies) (faults_of faults) false restarts.book.first taken mid
          → Finishes (bodies_of bodies) (faults_of faults) mid taken started now.book
          → ComesOut (faults_of faults) taken mid started now.book → IsGood outside bodies cloud_bodies o now
      by (Err fault) mid takes finishes out =
          halted_again cause halts_so mid (Err fault) takes finishes [] none_ended
          (unread cause halts_so mid (Err fault) takes finishes [] none_ended fault out.0)
          (none_pends (last mid (Err fault) takes finishes [] none_ended) (λ is. loud fault (takes.quiet refl) (sym out.0 ∙ is)))
        where
          none_ended : Ends finishes.ended []
          none_ended = ends [] [] finishes.ended finishes.are_ended tt

          loud : (fault : BookFault) → IsQuiet fault
              → ◌≡◌ {A = Result (Unit {0}) BookFault} (Err fault) (Err book.StoreFault) → ⊥
          loud book.StoreFault is same = is
          loud fault is same = absurd (let no = same in cc)
      by (Ok value) mid takes finishes out = of_started started refl
        where
          at_end : (s : Result (Unit {0}) BookFault) → started ≡ s
              → AreInterrupted s (open_tasks mid.records) finishes.ended now.book.journal
          at_end s is = subst (λ (s : Result (Unit {0}) BookFault). AreInterrupted s (open_tasks mid.records) finishes.ended
              now.book.journal) is finishes.are_ended

          of_started : (s : Result (Unit {0}) BookFault) → started ≡ s → IsGood outside bodies cloud_bodies o now
          of_started (Ok done) is =
              halted_again cause halts_so mid (Ok value) takes finishes [] it
              (λ standing. recorded mid (Ok value) takes finishes [] it takes.reads)
              (none_pends (last mid (Ok value) takes finishes [] it)
              (λ same. absurd (let no : ◌≡◌ {A = Result (Unit {0}) BookFault} (Ok done) (Err book.StoreFault) = sym is ∙ same
              in cc)))
            where
              it : Ends finishes.ended []
              it = all_ended mid value takes finishes (at_end (Ok done) is)
          of_started (Err fault) is = of_rest parts.0 parts.1 parts.2 parts.3 parts.4
            where
              parts : AreInterrupted {T = Unit {0}} (Err fault) (open_tasks mid.records) finishes.ended now.book.journal
              parts = at_end (Err fault) is

              of_rest : (done rest : List ℕ) → open_tasks mid.records ≡ done ++ rest
                  → finishes.ended ≡ map starting.interruption done → IsNextPending fault rest now.book.journal
                  → IsGood outside bodies cloud_bodies o now
              of_rest done rest parted are next =
                  halted_again cause halts_so mid (Ok value) takes finishes rest it
                  (unread cause halts_so mid (Ok value) takes finishes rest it fault is) (by_fault fault refl next)
                where
                  it : Ends finishes.ended rest
                  it = front_ends mid takes.reads done rest finishes.ended parted are

                  of_store : (left_over : List ℕ) → IsNextPending book.StoreFault left_over now.book.journal
                      → IsRunFrom outside (last mid (Ok value) takes finishes rest it)
                      (map moves.Note (interruptions left_over)) → Pends mid (Ok value) takes finishes rest it
                  of_store [] next may = absurd next
                  of_store (task ∷ others) next may =
                      pending_stopped outside (last mid (Ok value) takes finishes rest it) (interruption task)
                      now.book.journal.is_broken now.book.journal.pending (may.0, may.2) tt
                      (numbers_last mid (Ok value) takes finishes rest it) next

                  by_fault : (f : BookFault) → f ≡ fault → IsNextPending f rest now.book.journal
                      → Pends mid (Ok value) takes finishes rest it
                  by_fault book.StoreFault same next = of_store rest next it.may_rest
                  by_fault f same next =
                      none_pends (last mid (Ok value) takes finishes rest it)
                      (λ store. absurd (let no : f ≡ book.StoreFault = same ∙ some_fault fault book.StoreFault (sym is ∙ store)
                      in cc))
                    where
                      some_fault : (a b : BookFault) → ◌≡◌ {A = Result (Unit {0}) BookFault} (Err a) (Err b) → a ≡ b
                      some_fault a b is = cc
