-- A task that was opened, and is over as the records choose, has its end or comes to it.
use Rattle.std.proofs.Common.{◌≡◌, ◌∙◌, ◌<◌, ◌≤◌, ℕ, Bool, true, false, ◌&&◌, not, Option, Some, None, ap, arith, refl, subst, sym}
use Rattle.std.specs.Prelude.{◌==◌, if◌then◌else◌, is_none, is_some, nat_le, nat_lt}
use Rattle.std.specs.Option.{option_and_then}
use Rattle.std.proofs.lemmas.Bool.{and_from, and_parts, false≢true, le-leb, ltb-true}
use Rattle.bosh_base.specs.declared.entry.Entry.{Entry}
use Rattle.bosh_base.specs.declared.task.TaskEnd.{TaskEnd}
use Rattle.bosh_base.specs.declared.task.TaskEnd.TheVariants as task_ends
use Rattle.bosh_base.specs.declared.task.TaskRow.{TaskRow}
use Rattle.bosh_book.specs.Ends.{IsAtWork, end_by, end_of}
use Rattle.bosh_claim.specs.Choice.{choice_of, in_phase, item_of, of_open, of_task, or_waits}
use Rattle.bosh_claim.specs.Phase.{present}
use Rattle.bosh_claim.specs.declared.choice.Choice.{Choice}
use Rattle.bosh_claim.specs.declared.choice.Choice.TheVariants as choices
use Rattle.bosh_claim.specs.declared.phase.Phase.{Phase}
use Rattle.bosh_history.specs.Held.{is_open}
use Rattle.bosh_history.specs.Moments.{Moment}
use Rattle.bosh_history.specs.Recovered.{is_recovering}
use Rattle.bosh_history.specs.Snapshots.{task_row}
use Rattle.bosh_records.specs.Arrivals.{Arrivals}
use Rattle.bosh_records.specs.Readers.{task_at, work_at}
use Rattle.bosh_records.specs.declared.records.Records.{Records}
use Rattle.bosh_work.specs.declared.work.Work.{Work}
use Rattle.laws_sites.proofs.EndLemmas.{working_is}
use Rattle.laws_stands.specs.Agrees.{Agrees}
use Rattle.laws_stands.specs.Stands.{IsWork, Stands}
use Rattle.laws_stands.specs.Told.{Told, is_going}
use Rattle.laws_waits.specs.Opened.{IsOpened}

-- by what is left of a task it comes to its end where it is over
comes_to_end : (records : Records) (worker : ℕ) (work : Work) (failed : Option TaskEnd)
    → of_open records work worker failed ≡ choices.Over → end_by records failed work ≡ None → ⊥
comes_to_end records worker work (Some end) over left = by (work.open == 0) over left
  where
    by : (closed : Bool) → ◌≡◌ {A = Choice} (if closed then choices.Over else choices.Waits) choices.Over
        → ◌≡◌ {A = Option TaskEnd} (if closed then Some end else None) None → ⊥
    by true over left = absurd (let no = left in cc)
    by false over left = absurd (let no = over in cc)
comes_to_end records worker work None over left = by (present records work) over left
  where
    chosen : (e : Option Entry) → or_waits e ≡ choices.Over → ⊥
    chosen (Some e) over = absurd (let no = over in cc)
    chosen None over = absurd (let no = over in cc)

    by : (phase : Option Phase) → in_phase records work worker phase ≡ choices.Over
        → ◌≡◌ {A = Option TaskEnd} (if is_none phase then Some task_ends.Finished else None) None → ⊥
    by None over left = absurd (let no = left in cc)
    by (Some phase) over left = chosen (item_of records work worker phase) over

module _ (m : Moment) (told : Told) (records : Records) (t worker : ℕ) (recovered : is_recovering m ≡ false)
    (agrees : Agrees m told) (stands : Stands told records) (opened : IsOpened records t) where
  low : nat_le 1 t ≡ true
  low = le-leb 1 t opened.0

  high : nat_le t m.known.tasks ≡ true
  high = le-leb t m.known.tasks
      (subst (λ (n : ℕ). t ≤ n)
      (ap (λ (came : Arrivals). came.opened) stands.uploads ∙ (λ i. (agrees.known_is i).tasks)) opened.1)

  -- its end is recorded as it is known
  row_is : task_at records t ≡ Some (task_row m.known t)
  row_is = stands.tasks t
      ∙ (λ i. if low i && nat_le t (agrees.known_is i).tasks then Some (task_row (agrees.known_is i) t) else None)
      ∙ (λ i. if high i then Some (task_row m.known t) else None)

  end_is : end_of records t ≡ (m.known.task t).end
  end_is = ap (option_and_then (λ (row : TaskRow). row.end)) row_is

  -- one that has no end works, since nothing is left that a stop interrupted
  module _ (none : end_of records t ≡ None) where
    going : is_going m.known t ≡ true
    going = and_from (nat_le 1 t) (nat_le t m.known.tasks && is_open m.known t) low
        (and_from (nat_le t m.known.tasks) (is_open m.known t) high
        (ap (λ (end : Option TaskEnd). not (is_some end)) (sym end_is ∙ none)))

    since : m.stopped < t
    since = ltb-true m.stopped t
        (and_parts (nat_lt m.stopped t) (nat_le t m.known.tasks && is_open m.known t) (working_is m t recovered going)).0

    past : told.snapped < t
    past = let before = agrees.snapped in let after = since in omega (arith, before, after)

    has_work : work_at records t ≡ None → ⊥
    has_work is =
        false≢true (sym (subst (IsWork told t) is (stands.works t) past) ∙ (λ i. is_going (agrees.known_is i) t) ∙ going)

  -- so nothing is left of it
  pub not_at_work : choice_of records t worker ≡ choices.Over → ¬ IsAtWork records t
  not_at_work over (none, left) = by (work_at records t) refl
    where
      by : (work : Option Work) → work_at records t ≡ work → ⊥
      by None is = has_work none is
      by (Some work) is =
          comes_to_end records worker work work.failed (sym (ap (of_task records worker) is) ∙ over)
          (sym (ap (option_and_then (λ (work : Work). end_by records work.failed work)) is) ∙ left)
