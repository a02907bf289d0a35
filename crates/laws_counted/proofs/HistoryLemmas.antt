-- Each clean task keeps within its budget, at any moment of a permitted history.
use Rattle.std.proofs.Common.{◌≡◌, ◌∙◌, ℕ, ◌≤◌, Bool, true, false, Option, Some, None, List, [], ◌∷◌}
use Rattle.std.proofs.Common.{arith, inl, inr, refl, subst, sym}
use Rattle.std.specs.Prelude.{◌*◌, ◌&&◌, eqb, filter, if◌then◌else◌, is_some, length, nat_le, nat_lt, not}
use Rattle.std.specs.List.{list_all}
use Rattle.std.proofs.lemmas.Bool.{and_from, eq-eqb, eqb-true, false≢true, le-leb, leb-true}
use Rattle.std.proofs.lemmas.Bool.Decides.{eqb_tells}
use Rattle.bosh_base.specs.declared.digest.Digest.{Digest}
use Rattle.bosh_base.specs.declared.entry.Begin.{Begin}
use Rattle.bosh_base.specs.declared.entry.Entry.{Entry}
use Rattle.bosh_base.specs.declared.entry.Entry.TheVariants as entries
use Rattle.bosh_base.specs.declared.entry.TaskOpen.{TaskOpen}
use Rattle.bosh_base.specs.declared.key.KeyWork.{KeyWork}
use Rattle.bosh_base.specs.declared.moves.Did.{Did}
use Rattle.bosh_base.specs.declared.moves.Move.{Move}
use Rattle.bosh_base.specs.declared.moves.Move.TheVariants as moves
use Rattle.bosh_base.specs.declared.owner.Owner.{Owner}
use Rattle.bosh_base.specs.declared.owner.Owner.TheVariants.{Compile, Disk, Instance}
use Rattle.bosh_history.specs.Budget.{budget, is_within_budget}
use Rattle.bosh_history.specs.Calls.{task_with_call}
use Rattle.bosh_history.specs.Fit.{IsFit}
use Rattle.bosh_history.specs.Goals.{instances_of, rows_of}
use Rattle.bosh_history.specs.Items.{is_in_deployment}
use Rattle.bosh_history.specs.Known.{Task}
use Rattle.bosh_history.specs.Learn.{learn}
use Rattle.bosh_history.specs.Moments.{Moment, OpenCall, Opening, beginning, later, noting}
use Rattle.bosh_history.specs.Notes.{MayNote, Outside}
use Rattle.bosh_history.specs.Openings.{deploys}
use Rattle.bosh_history.specs.Permitted.{IsPermitted, IsRun, IsRunFrom, PerformsOpen}
use Rattle.bosh_history.specs.Recovered.{may_follow}
use Rattle.bosh_history.specs.Slots.{keys_of}
use Rattle.bosh_history.specs.Tasks.{task_opened}
use Rattle.bosh_history.specs.Words.{holds}
use Rattle.bosh_lawful.specs.Clean.{AreBoundedFrom, AreCleanTasksBounded, CleanTask, are_found_out, clean_after}
use Rattle.bosh_lawful.specs.Clean.{is_bounded}
use Rattle.bosh_lawful.specs.Clean.{is_clean, is_failed, with_noted, with_opened}
use Rattle.laws_clean.proofs.CourseLemmas.{for_same, unfailed_course, with_same}
use Rattle.laws_clean.proofs.FewLemmas.{calls_few}
use Rattle.laws_clean.proofs.HistoryLemmas.{unfailed_run}
use Rattle.laws_clean.proofs.OpenLemmas.{other_task}
use Rattle.laws_clean.specs.Few.{most_of_task}
use Rattle.laws_clean.specs.Unfailed.{AreUnfailed, AreUnfailedFrom, is_unfailed}
use Rattle.laws_counted.proofs.BudgetLemmas.{rows_counted, slots_within}
use Rattle.laws_counted.proofs.CourseLemmas.{counted_course}
use Rattle.laws_counted.proofs.DidMoves.{same_left}
use Rattle.laws_counted.proofs.NoteMoves.{count_note, ended_count}
use Rattle.laws_counted.specs.Counted.{AreCounted}
use Rattle.laws_counts.specs.Counts.{CleanFacts, most_of_slots}
use Rattle.laws_counts.specs.Courses.{Account, Course, account_opened, call_made, course_at, course_later, noted}
use Rattle.laws_counts.specs.Courses.{performed, performed_for, performing, unclean, with_account}
use Rattle.laws_facts.proofs.MadeLemmas.{same_tasks}
use Rattle.laws_facts.proofs.FrameLemmas.{begun_tasks}
use Rattle.laws_facts.proofs.WorkLemmas.{begun_works, end_begin, opens_next}
use Rattle.laws_facts.specs.Facts.{Holds}
use Rattle.laws_facts.specs.Owners.{works}
use Rattle.laws_held.proofs.HeldLemmas.{fit_holds}
use Rattle.laws_held.proofs.PartLemmas.{whole_moves}
use Rattle.laws_held.specs.Whole.{Whole}
use Rattle.laws_items.proofs.ListLemmas.{all_from, all_in}
use Rattle.laws_items.specs.Lists.{IsIn}
use Rattle.laws_tasks.proofs.TaskFrames.{opened_stays}

-- a task that was clean so far, within its budget
record Within (c : Course) (it : CleanTask) : Type 0 where
  opened : it.opening.task ≤ c.moment.known.tasks
  clean : (c.account it.opening.task).is_clean ≡ true
  goal : (c.moment.known.task it.opening.task).goal ≡ it.opening.goal
  obsolete : (c.moment.known.task it.opening.task).obsolete ≡ it.opening.obsolete
  left_over : (c.account it.opening.task).left_over
      ≡ filter (is_in_deployment it.opened it.opening.dep) it.opened.machines
  few : is_within_budget it.opened c.moment.known it.opening ≡ true

-- ---- while it works

within_few : (built : KeyWork → List Digest → Digest) (c : Course) (it : CleanTask) → Holds c.moment
    → works c.moment it.opening.task ≡ true
    → (c.moment.known.task it.opening.task).goal ≡ it.opening.goal
    → (c.moment.known.task it.opening.task).obsolete ≡ it.opening.obsolete
    → (c.account it.opening.task).left_over
    ≡ filter (is_in_deployment it.opened it.opening.dep) it.opened.machines
    → CleanFacts built c.moment it.opening.task (c.account it.opening.task)
    → is_within_budget it.opened c.moment.known it.opening ≡ true
within_few built c it h working goal obsolete left f =
    by task.calls (calls_few built c.moment it.opening.task (c.account it.opening.task) f)
  where
    task : Task
    task = c.moment.known.task it.opening.task

    low : most_of_task c.moment it.opening.task (c.moment.known.task it.opening.task) (c.account it.opening.task)
        ≤ budget it.opened it.opening
    low =
        let rows : length (instances_of (c.moment.known.task it.opening.task).goal) ≡ length (rows_of it.opening.goal) =
        rows_counted (c.moment.known.task it.opening.task).goal ∙ (λ j. length (rows_of (goal j))) in
        let gone : length (c.moment.known.task it.opening.task).obsolete ≡ length it.opening.obsolete =
        λ j. length (obsolete j) in
        let slots : most_of_slots c.moment it.opening.task (c.moment.known.task it.opening.task)
        ≤ 3 * length (keys_of (c.moment.known.task it.opening.task).goal) =
        slots_within c.moment h.known it.opening.task working in
        let keys : length (keys_of (c.moment.known.task it.opening.task).goal) ≡ length (keys_of it.opening.goal) =
        λ j. length (keys_of (goal j)) in
        let swept : length (c.account it.opening.task).left_over
        ≡ length (filter (is_in_deployment it.opened it.opening.dep) it.opened.machines) = λ j. length (left j) in
        omega (arith, rows, gone, slots, keys, swept)

    by : (calls : Option ℕ)
        → holds (λ n. nat_le n (most_of_task c.moment it.opening.task (c.moment.known.task it.opening.task)
        (c.account it.opening.task))) calls ≡ true
        → holds (λ n. nat_le n (budget it.opened it.opening)) calls ≡ true
    by (Some n) few =
        let most : n
        ≤ most_of_task c.moment it.opening.task (c.moment.known.task it.opening.task) (c.account it.opening.task) =
        leb-true n _ few in
        le-leb n (budget it.opened it.opening) (omega (arith, most, low))
    by None few = absurd (false≢true few)

-- ---- what is kept of it

with_field : {X : Type 0} (field : Account → X) (n t : ℕ) (change : Account → Account) (accounts : ℕ → Account)
    → field (change (accounts n)) ≡ field (accounts n)
    → field (with_account n change accounts t) ≡ field (accounts t)
with_field field n t change accounts same = by (eqb n t) refl
  where
    by : (own : Bool) → eqb n t ≡ own
        → field (if own then change (accounts n) else accounts t) ≡ field (accounts t)
    by true own = same ∙ (λ j. field (accounts (eqb-true n t own j)))
    by false other = refl

for_left : (m : Moment) (b : Begin) (d : Did) (owner : Owner) (accounts : ℕ → Account) (t : ℕ)
    → (performed_for m b d owner accounts t).left_over ≡ (accounts t).left_over
for_left m b d (Instance i) accounts t =
    with_field (λ it. it.left_over) b.task t (performed m b d i) accounts (same_left m b d i (accounts b.task))
for_left m b d (Compile task s) accounts t = refl
for_left m b d (Disk disk) accounts t = refl

-- the account of a task that was opened before
record SameAccount (a b : Account) : Type 0 where
  clean : b.is_clean ≡ a.is_clean
  left_over : b.left_over ≡ a.left_over

noted_same : (outside : Outside) (m : Moment) (e : Entry) → MayNote outside m e → (accounts : ℕ → Account) (t : ℕ)
    → t ≤ m.known.tasks → SameAccount (accounts t) (noted m e accounts t)
noted_same outside m (entries.TaskOpen o) may accounts t low = record {
  clean = λ j. (if other j then account_opened m o else accounts t).is_clean;
  left_over = λ j. (if other j then account_opened m o else accounts t).left_over;
}
  where
    other : eqb o.task t ≡ false
    other = grind (arith, opens_next m.known o may.0, low, eqb_tells o.task t)
noted_same outside m (entries.Begin b) may accounts t low = record {
  clean = with_same b.task t (call_made b.owner) accounts refl;
  left_over = with_field (λ it. it.left_over) b.task t (call_made b.owner) accounts refl;
}
noted_same outside m e may accounts t low = record { clean = refl; left_over = refl }

-- ---- one move

module _ (outside : Outside) (c : Course) (h : Holds c.moment) (it : CleanTask) (was : Within c it) where
  abbrev m : Moment
  m = c.moment

  abbrev t : ℕ
  t = it.opening.task

  record SameOpening (new : Task) : Type 0 where
    goal : new.goal ≡ (m.known.task t).goal
    obsolete : new.obsolete ≡ (m.known.task t).obsolete

  opening_same : (e : Entry) → MayNote outside m e → SameOpening ((learn m.known e).task t)
  opening_same (entries.TaskOpen o) may = record {
    goal = λ j. (other_task outside m h o may t was.opened j).goal;
    obsolete = λ j. (other_task outside m h o may t was.opened j).obsolete;
  }
  opening_same (entries.Snapshot s) may = absurd may
  opening_same e may = record {
    goal = (opened_stays outside m e t may refl).goal;
    obsolete = (opened_stays outside m e t may refl).obsolete;
  }

  -- a task that works no more begins no call
  count_same : (e : Entry) → may_follow m e ≡ true → MayNote outside m e → works (noting m e) t ≡ false
      → ((learn m.known e).task t).calls ≡ (m.known.task t).calls
  count_same (entries.TaskOpen o) follows may idle = λ j. (other_task outside m h o may t was.opened j).calls
  count_same (entries.Begin b) follows may idle = by (eqb b.task t) refl
    where
      same : works (noting m (entries.Begin b)) t ≡ works m t
      same =
          λ j. nat_lt m.stopped t
          && (nat_le t (begun_tasks b b.owner m.known j) && not (is_some (end_begin m b t j)))

      by : (own : Bool) → eqb b.task t ≡ own
          → (if own then task_with_call (m.known.task b.task) else m.known.task t).calls ≡ (m.known.task t).calls
      by true own =
          absurd (false≢true
          (sym idle ∙ (same ∙ ((λ j. works m (sym (eqb-true b.task t own) j)) ∙ begun_works m b follows may))))
      by false other = refl
  count_same (entries.End e) follows may idle = ended_count e.answer (m.known.begun e.n) m.known t
  count_same (entries.Snapshot s) follows may idle = absurd may
  count_same e follows may idle = count_note outside m e t may refl refl

  within_noted : (e : Entry) → may_follow m e ≡ true → MayNote outside m e → Holds (noting m e)
      → AreCounted outside.built (course_later c (moves.Note e)) → Within (course_later c (moves.Note e)) it
  within_noted e follows may after counted = record {
    opened = grind (arith, was.opened, (same_tasks outside m e may).tasks);
    clean = clean;
    goal = goal;
    obsolete = obsolete;
    left_over = left_over;
    few = by (works (noting m e) t) refl;
  }
    where
      account : SameAccount (c.account t) (noted m e c.account t)
      account = noted_same outside m e may c.account t was.opened

      clean : (noted m e c.account t).is_clean ≡ true
      clean = account.clean ∙ was.clean

      goal : ((learn m.known e).task t).goal ≡ it.opening.goal
      goal = (opening_same e may).goal ∙ was.goal

      obsolete : ((learn m.known e).task t).obsolete ≡ it.opening.obsolete
      obsolete = (opening_same e may).obsolete ∙ was.obsolete

      left_over : (noted m e c.account t).left_over
          ≡ filter (is_in_deployment it.opened it.opening.dep) it.opened.machines
      left_over = account.left_over ∙ was.left_over

      by : (working : Bool) → works (noting m e) t ≡ working
          → is_within_budget it.opened (learn m.known e) it.opening ≡ true
      by true working =
          within_few outside.built (course_later c (moves.Note e)) it after working goal obsolete left_over
          (counted t working clean)
      by false idle =
          (λ j. holds (λ n. nat_le n (budget it.opened it.opening)) (count_same e follows may idle j)) ∙ was.few

  within_later : (move : Move) → IsPermitted outside m move → is_clean move ≡ true → Holds (later m move)
      → AreCounted outside.built (course_later c move) → Within (course_later c move) it
  within_later (moves.Note e) may clean after counted = within_noted e may.1 may.2 after counted
  within_later (moves.Did d) may clean after counted = record {
    opened = was.opened;
    clean = (account (m.calls d.n) may.1).clean ∙ was.clean;
    goal = was.goal;
    obsolete = was.obsolete;
    left_over = (account (m.calls d.n) may.1).left_over ∙ was.left_over;
    few = was.few;
  }
    where
      account : (call : Option OpenCall) → PerformsOpen outside m.effects d call
          → SameAccount (c.account t) (performing m d call c.account t)
      account (Some call) performs = by (is_failed d.answer) refl
        where
          by : (fails : Bool) → is_failed d.answer ≡ fails
              → SameAccount (c.account t)
              ((if fails then unclean c.account else performed_for m call.begin d call.begin.owner c.account) t)
          by true failed = absurd (false≢true (sym (λ j. not (failed j)) ∙ clean))
          by false well = record {
            clean = for_same m call.begin d call.begin.owner c.account t;
            left_over = for_left m call.begin d call.begin.owner c.account t;
          }
      account None performs = absurd performs
  within_later (moves.Wrote w) may clean after counted = record {
    opened = was.opened;
    clean = was.clean;
    goal = was.goal;
    obsolete = was.obsolete;
    left_over = was.left_over;
    few = was.few;
  }
  within_later (moves.Said said) may clean after counted = record {
    opened = was.opened;
    clean = was.clean;
    goal = was.goal;
    obsolete = was.obsolete;
    left_over = was.left_over;
    few = was.few;
  }
  within_later (moves.Halt cause) may clean after counted = absurd (false≢true clean)
  within_later (moves.Stop stop) may clean after counted = absurd (false≢true clean)
  within_later (moves.Lost loss) may clean after counted = absurd (false≢true clean)

-- a task that opens, and can find out all that is wrong
within_own : (c : Course) (o : TaskOpen) → (deploys o.kind && are_found_out c.moment o) ≡ true
    → Within (course_later c (moves.Note (entries.TaskOpen o))) (record { opened = c.moment.known; opening = o })
within_own c o clean = record {
  opened = omega arith;
  clean = (λ j. (own_account j).is_clean) ∙ clean;
  goal = λ j. (own_task j).goal;
  obsolete = λ j. (own_task j).obsolete;
  left_over = λ j. (own_account j).left_over;
  few =
      (λ j. holds (λ n. nat_le n (budget c.moment.known o)) (own_task j).calls)
      ∙ le-leb 0 (budget c.moment.known o) (omega arith);
}
  where
    own_task : (learn c.moment.known (entries.TaskOpen o)).task o.task ≡ task_opened c.moment.known o
    own_task =
        λ j. if eq-eqb o.task o.task refl j then task_opened c.moment.known o else c.moment.known.task o.task

    own_account : noted c.moment (entries.TaskOpen o) c.account o.task ≡ account_opened c.moment o
    own_account = λ j. if eq-eqb o.task o.task refl j then account_opened c.moment o else c.account o.task

-- ---- a history

-- all tasks of the list are within their budgets
abbrev AllWithin : Course → List CleanTask → Type 0
AllWithin c tasks = (it : CleanTask) → IsIn it tasks → Within c it

module _ (outside : Outside) (c : Course) (h : Holds c.moment) (tasks : List CleanTask) (all : AllWithin c tasks) where
  opened_within : (o : TaskOpen) → IsPermitted outside c.moment (moves.Note (entries.TaskOpen o))
      → Holds (noting c.moment (entries.TaskOpen o))
      → AreCounted outside.built (course_later c (moves.Note (entries.TaskOpen o))) → (clean : Bool)
      → (deploys o.kind && are_found_out c.moment o) ≡ clean
      → AllWithin (course_later c (moves.Note (entries.TaskOpen o)))
      (if clean then record { opened = c.moment.known; opening = o } ∷ tasks else tasks)
  opened_within o may after counted true clean it (inl same) =
      subst (Within (course_later c (moves.Note (entries.TaskOpen o)))) same (within_own c o clean)
  opened_within o may after counted true clean it (inr isin) =
      within_noted outside c h it (all it isin) (entries.TaskOpen o) may.1 may.2 after counted
  opened_within o may after counted false unclean it isin =
      within_noted outside c h it (all it isin) (entries.TaskOpen o) may.1 may.2 after counted

  noted_within : (e : Entry) → IsPermitted outside c.moment (moves.Note e) → Holds (noting c.moment e)
      → AreCounted outside.built (course_later c (moves.Note e))
      → AllWithin (course_later c (moves.Note e)) (with_opened c.moment e tasks)
  noted_within (entries.TaskOpen o) may after counted it isin =
      opened_within o may after counted (deploys o.kind && are_found_out c.moment o) refl it isin
  noted_within e may after counted it isin =
      within_noted outside c h it (all it isin) e may.1 may.2 after counted

  clean_within : (move : Move) → IsPermitted outside c.moment move → is_clean move ≡ true
      → Holds (later c.moment move) → AreCounted outside.built (course_later c move)
      → AllWithin (course_later c move) (with_noted c.moment move tasks)
  clean_within (moves.Note e) may clean after counted it isin = noted_within e may after counted it isin
  clean_within move may clean after counted it isin =
      within_later outside c h it (all it isin) move may clean after counted

  all_later : (move : Move) → IsPermitted outside c.moment move → Holds (later c.moment move)
      → AreCounted outside.built (course_later c move)
      → AllWithin (course_later c move) (clean_after c.moment move tasks)
  all_later move may after counted = by (is_clean move) refl
    where
      by : (clean : Bool) → is_clean move ≡ clean
          → AllWithin (course_later c move) (if clean then with_noted c.moment move tasks else [])
      by true clean it isin = clean_within move may clean after counted it isin
      by false unclean it isin = absurd isin

all_bounded : (c : Course) (tasks : List CleanTask) → AllWithin c tasks
    → list_all (is_unfailed c.moment.known) tasks ≡ true → list_all (is_bounded c.moment.known) tasks ≡ true
all_bounded c tasks all unfailed =
    all_from (is_bounded c.moment.known) tasks
    (λ it isin.
    and_from (is_unfailed c.moment.known it) _ (all_in (is_unfailed c.moment.known) it tasks unfailed isin)
    (all it isin).few)

bounded_along : (outside : Outside) (c : Course) (moves : List Move) → IsRunFrom outside c.moment moves
    → Whole c.moment → AreUnfailed c → AreCounted outside.built c → (tasks : List CleanTask) → AllWithin c tasks
    → AreUnfailedFrom c.moment tasks moves → AreBoundedFrom c.moment tasks moves
bounded_along outside c [] run h unfailed counted tasks all none_failed = all_bounded c tasks all none_failed
bounded_along outside c (move ∷ moves) run h unfailed counted tasks all none_failed =
    let after : Whole (later c.moment move) = whole_moves outside c.moment move run.0 h in
    let still : AreCounted outside.built (course_later c move) =
    counted_course outside c move run.0 h.holds after.holds unfailed counted in (
      all_bounded c tasks all none_failed.0,
      bounded_along outside (course_later c move) moves run.1 after
          (unfailed_course outside c move run.0 h.holds unfailed) still (clean_after c.moment move tasks)
          (all_later outside c h.holds tasks all move run.0 after.holds still) none_failed.1,
    )

pub bounded_run : (outside : Outside) (o : Opening) (moves : List Move) → IsFit outside o → IsRun outside o moves
    → AreCleanTasksBounded o moves
bounded_run outside o moves fit run =
    bounded_along outside (course_at (beginning o)) moves run (fit_holds outside o fit)
    (λ t working clean. absurd (false≢true clean)) (λ t working clean. absurd (false≢true clean)) []
    (λ it isin. absurd isin) (unfailed_run outside o moves fit run)

pub counted_move : (outside : Outside) (c : Course) (move : Move) → IsPermitted outside c.moment move
    → Whole c.moment → AreUnfailed c → AreCounted outside.built c → AreCounted outside.built (course_later c move)
counted_move outside c move may h unfailed counted =
    counted_course outside c move may h.holds (whole_moves outside c.moment move may h).holds unfailed counted
