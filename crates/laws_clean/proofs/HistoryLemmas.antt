-- No call of a clean task fails, at any moment of a permitted history.
use Rattle.std.proofs.Common.{◌≡◌, ◌∙◌, ℕ, ◌≤◌, Bool, true, false, Option, Some, None, List, [], ◌∷◌}
use Rattle.std.proofs.Common.{arith, inl, inr, refl, subst, sym}
use Rattle.std.specs.Prelude.{◌&&◌, eqb, if◌then◌else◌, is_some, nat_le, nat_lt, not}
use Rattle.std.proofs.lemmas.Bool.{and_from, and_parts, eqb-true, false≢true, le-leb, not-true}
use Rattle.bosh_base.specs.declared.entry.Entry.{Entry}
use Rattle.bosh_base.specs.declared.entry.Entry.TheVariants as entries
use Rattle.bosh_base.specs.declared.entry.TaskOpen.{TaskOpen}
use Rattle.bosh_base.specs.declared.moves.Move.{Move}
use Rattle.bosh_base.specs.declared.moves.Move.TheVariants as moves
use Rattle.bosh_history.specs.Calls.{call_ended, task_told}
use Rattle.bosh_history.specs.Fit.{IsFit}
use Rattle.bosh_history.specs.Learn.{learn}
use Rattle.bosh_history.specs.Moments.{Moment, OpenCall, Opening, beginning, later, noting}
use Rattle.bosh_history.specs.Notes.{EndsCall, MayNote, Outside}
use Rattle.bosh_history.specs.Openings.{deploys}
use Rattle.bosh_history.specs.Permitted.{IsPermitted, IsRun, IsRunFrom}
use Rattle.bosh_lawful.specs.Clean.{CleanTask, are_found_out, clean_after, is_clean, is_failed, with_noted, with_opened}
use Rattle.laws_clean.proofs.EntryLemmas.{noted}
use Rattle.laws_clean.proofs.NoteLemmas.{so_far_note}
use Rattle.laws_clean.proofs.OpenLemmas.{opened_other, opened_own, other_task}
use Rattle.laws_clean.proofs.PerformedLemmas.{unfailed_performed}
use Rattle.laws_clean.proofs.WriteLemmas.{unfailed_writing}
use Rattle.laws_clean.specs.Unfailed.{AreCleanTasksUnfailed, AreUnfailedFrom, UnfailedFacts, is_unfailed}
use Rattle.laws_facts.proofs.CurrentLemmas.{worked}
use Rattle.laws_facts.proofs.LockLemmas.{note_stays}
use Rattle.laws_facts.proofs.MadeLemmas.{same_tasks}
use Rattle.laws_facts.specs.Facts.{Holds}
use Rattle.laws_facts.specs.Owners.{works}
use Rattle.laws_held.proofs.HeldLemmas.{fit_holds}
use Rattle.laws_held.proofs.PartLemmas.{whole_moves}
use Rattle.laws_held.specs.Whole.{Whole}
use Rattle.laws_items.proofs.ListLemmas.{all_from}
use Rattle.laws_items.specs.Lists.{IsIn}

-- a task that was clean so far: of which no call failed, and in which none will while it works
record Stands (m : Moment) (t : ℕ) : Type 0 where
  opened : t ≤ m.known.tasks
  none_failed : is_some (m.known.task t).failed ≡ false
  facts : works m t ≡ true → UnfailedFacts m t

-- ---- one move

module _ (outside : Outside) (m : Moment) (h : Holds m) (t : ℕ) where
  -- a task that works after a clean move worked before it, unless it is the one that opens
  pub worked_before : (e : Entry) → MayNote outside m e → t ≤ m.known.tasks → works (noting m e) t ≡ true
      → works m t ≡ true
  worked_before (entries.TaskOpen o) may low working =
      let (after, rest) = and_parts (nat_lt m.stopped t) _ working in
      let (there, opens) = and_parts (nat_le t (noting m (entries.TaskOpen o)).known.tasks) _ rest in
      and_from (nat_lt m.stopped t) _ after
      (and_from (nat_le t m.known.tasks) _ (le-leb t m.known.tasks low)
      (sym (λ j. not (is_some (other_task outside m h o may t low j).end)) ∙ opens))
  worked_before (entries.Snapshot s) may low working = absurd may
  worked_before e may low working = worked m e t (note_stays outside m e may refl t) working

  pub unfailed_noted : (e : Entry) → MayNote outside m e → t ≤ m.known.tasks → works m t ≡ true → UnfailedFacts m t
      → UnfailedFacts (noting m e) t
  unfailed_noted (entries.TaskOpen o) may low working u = opened_other outside m h o may t low u
  unfailed_noted (entries.Snapshot s) may low working u = absurd may
  unfailed_noted e may low working u = noted outside m h t working u e may refl

  -- an entry fails no task that works no more
  failed_same : (e : Entry) → MayNote outside m e → t ≤ m.known.tasks → works m t ≡ false
      → is_some ((learn m.known e).task t).failed ≡ is_some (m.known.task t).failed
  failed_same (entries.TaskOpen o) may low idle = λ j. is_some (other_task outside m h o may t low j).failed
  failed_same (entries.Snapshot s) may low idle = absurd may
  failed_same (entries.End e) may low idle = by (m.calls e.n) refl may
    where
      of : (that : OpenCall) → m.calls e.n ≡ Some that → (own : Bool) → eqb that.begin.task t ≡ own
          → is_some (if own then task_told m.known that.begin e.answer (m.known.task that.begin.task)
          else m.known.task t).failed
          ≡ is_some (m.known.task t).failed
      of that is true own =
          absurd (false≢true
          (sym idle ∙ ((λ j. works m (sym (eqb-true that.begin.task t own) j)) ∙ (h.known.calls e.n that is).works)))
      of that is false other = refl

      by : (that : Option OpenCall) → m.calls e.n ≡ that → EndsCall e that
          → is_some ((learn m.known (entries.End e)).task t).failed ≡ is_some (m.known.task t).failed
      by (Some that) is ends =
          (λ j. is_some ((call_ended e.answer ((h.known.calls e.n that is).begun j) m.known).task t).failed)
          ∙ of that is (eqb that.begin.task t) refl
      by None is ends = absurd ends
  failed_same e may low idle = λ j. is_some ((so_far_note outside m e t may refl refl).failed j)

  stands_noted : (e : Entry) → MayNote outside m e → Stands m t → Stands (noting m e) t
  stands_noted e may s = record {
    opened = grind (arith, s.opened, (same_tasks outside m e may).tasks);
    none_failed = by (works m t) refl;
    facts = λ working. kept (worked_before e may s.opened working);
  }
    where
      kept : works m t ≡ true → UnfailedFacts (noting m e) t
      kept working = unfailed_noted e may s.opened working (s.facts working)

      by : (working : Bool) → works m t ≡ working → is_some ((noting m e).known.task t).failed ≡ false
      by true working = (kept working).none_failed
      by false idle = failed_same e may s.opened idle ∙ s.none_failed

  stands_later : (move : Move) → IsPermitted outside m move → is_clean move ≡ true → Stands m t
      → Stands (later m move) t
  stands_later (moves.Note e) may clean s = stands_noted e may.2 s
  stands_later (moves.Did d) may clean s = record {
    opened = s.opened;
    none_failed = s.none_failed;
    facts = λ working. unfailed_performed outside m d h may.1 (not-true (is_failed d.answer) clean) t (s.facts working);
  }
  stands_later (moves.Wrote w) may clean s = record {
    opened = s.opened;
    none_failed = s.none_failed;
    facts = λ working. unfailed_writing m w.inst w.text t (s.facts working);
  }
  stands_later (moves.Halt cause) may clean s = absurd (false≢true clean)
  stands_later (moves.Stop stop) may clean s = absurd (false≢true clean)
  stands_later (moves.Lost loss) may clean s = absurd (false≢true clean)
  stands_later (moves.Said said) may clean s = s

-- a task that opens, and can find out all that is wrong
stands_own : (outside : Outside) (m : Moment) → Holds m → (o : TaskOpen) → MayNote outside m (entries.TaskOpen o)
    → (deploys o.kind && are_found_out m o) ≡ true → Stands (noting m (entries.TaskOpen o)) o.task
stands_own outside m h o may clean =
    let (deploy, found_out) = and_parts (deploys o.kind) (are_found_out m o) clean in
    let u : UnfailedFacts (noting m (entries.TaskOpen o)) o.task = opened_own outside m h o may deploy found_out in
    record { opened = omega arith; none_failed = u.none_failed; facts = λ working. u }

-- ---- a history

-- all tasks of the list are clean so far
abbrev AllStand : Moment → List CleanTask → Type 0
AllStand m tasks = (it : CleanTask) → IsIn it tasks → Stands m it.opening.task

module _ (outside : Outside) (m : Moment) (h : Holds m) (tasks : List CleanTask) (all : AllStand m tasks) where
  opened_stand : (o : TaskOpen) → IsPermitted outside m (moves.Note (entries.TaskOpen o)) → (clean : Bool)
      → (deploys o.kind && are_found_out m o) ≡ clean
      → AllStand (noting m (entries.TaskOpen o))
      (if clean then record { opened = m.known; opening = o } ∷ tasks else tasks)
  opened_stand o may true clean it (inl same) =
      subst (λ (task : CleanTask). Stands (noting m (entries.TaskOpen o)) task.opening.task) same
      (stands_own outside m h o may.2 clean)
  opened_stand o may true clean it (inr isin) =
      stands_noted outside m h it.opening.task (entries.TaskOpen o) may.2 (all it isin)
  opened_stand o may false unclean it isin =
      stands_noted outside m h it.opening.task (entries.TaskOpen o) may.2 (all it isin)

  noted_stand : (e : Entry) → IsPermitted outside m (moves.Note e) → AllStand (noting m e) (with_opened m e tasks)
  noted_stand (entries.TaskOpen o) may it isin =
      opened_stand o may (deploys o.kind && are_found_out m o) refl it isin
  noted_stand e may it isin = stands_noted outside m h it.opening.task e may.2 (all it isin)

  clean_stand : (move : Move) → IsPermitted outside m move → is_clean move ≡ true
      → AllStand (later m move) (with_noted m move tasks)
  clean_stand (moves.Note e) may clean it isin = noted_stand e may it isin
  clean_stand move may clean it isin = stands_later outside m h it.opening.task move may clean (all it isin)

  all_later : (move : Move) → IsPermitted outside m move → AllStand (later m move) (clean_after m move tasks)
  all_later move may = by (is_clean move) refl
    where
      by : (clean : Bool) → is_clean move ≡ clean
          → AllStand (later m move) (if clean then with_noted m move tasks else [])
      by true clean it isin = clean_stand move may clean it isin
      by false unclean it isin = absurd isin

unfailed_along : (outside : Outside) (m : Moment) (moves : List Move) → IsRunFrom outside m moves → Whole m
    → (tasks : List CleanTask) → AllStand m tasks → AreUnfailedFrom m tasks moves
unfailed_along outside m [] run h tasks all =
    all_from (is_unfailed m.known) tasks (λ it isin j. not ((all it isin).none_failed j))
unfailed_along outside m (move ∷ moves) run h tasks all = (
  all_from (is_unfailed m.known) tasks (λ it isin j. not ((all it isin).none_failed j)),
  unfailed_along outside (later m move) moves run.1 (whole_moves outside m move run.0 h) (clean_after m move tasks)
      (all_later outside m h.holds tasks all move run.0),
)

pub unfailed_run : (outside : Outside) (o : Opening) (moves : List Move) → IsFit outside o → IsRun outside o moves
    → AreCleanTasksUnfailed o moves
unfailed_run outside o moves fit run =
    unfailed_along outside (beginning o) moves run (fit_holds outside o fit) [] (λ it isin. absurd isin)
