-- The calls of a clean task are as few as they were, where a move begins, performs and answers no call.
use Rattle.std.proofs.Common.{◌≡◌, ◌∙◌, ℕ, ◌+◌, ◌≤◌, true, false, Option, Some, None, List}
use Rattle.std.proofs.Common.{arith, refl, subst, sym}
use Rattle.std.specs.Prelude.{◌&&◌, ◌||◌, ◌==◌, is_some, length, nat_le, not}
use Rattle.std.specs.Option.{option_eq}
use Rattle.std.specs.Str.{bytes_eq}
use Rattle.std.proofs.lemmas.Bool.{and_from, false≢true, le-leb}
use Rattle.bosh_base.specs.declared.digest.Digest.{Digest}
use Rattle.bosh_base.specs.declared.goal.GoalRow.{GoalRow}
use Rattle.bosh_base.specs.declared.inst.Inst.{Inst}
use Rattle.bosh_base.specs.declared.key.KeyWork.{KeyWork}
use Rattle.bosh_base.specs.declared.owner.Owner.TheVariants.{Instance}
use Rattle.bosh_history.specs.Goals.{is_in}
use Rattle.bosh_history.specs.Items.{stage_of}
use Rattle.bosh_history.specs.Known.{SlotName, Task, plan_in, want_in}
use Rattle.bosh_history.specs.Moments.{Moment}
use Rattle.bosh_history.specs.Orders.{same_slot}
use Rattle.bosh_history.specs.Steps.{is_idle}
use Rattle.bosh_history.specs.Words.{holds, is_among}
use Rattle.bosh_rows.specs.Same.{same_inst}
use Rattle.bosh_rows.specs.Tied.{one_if}
use Rattle.laws_cloud.proofs.TellLemmas.{bytes_self}
use Rattle.laws_counted.proofs.CallFrames.{begins_of, still_same}
use Rattle.laws_counted.proofs.CountLemmas.{counted_same}
use Rattle.laws_counted.proofs.OwnLemmas.{IsEarlier, earlier_is}
use Rattle.laws_counted.proofs.SlotFacts.{Grows, slots_left}
use Rattle.laws_counted.proofs.StepFrames.{SameFor, owner_is}
use Rattle.laws_counted.proofs.SweepLemmas.{sweep_same}
use Rattle.laws_counts.specs.Counts.{CleanFacts, SweepFacts, are_slots_few, is_of_earlier, is_slot_call, owner_of}
use Rattle.laws_counts.specs.Courses.{Account}
use Rattle.laws_counts.specs.RowSteps.{StepFacts, is_budgeted, may_go_on}
use Rattle.laws_facts.proofs.CallLemmas.{none_open}
use Rattle.laws_facts.proofs.MadeLemmas.{SameTasks}
use Rattle.laws_facts.specs.KnownFacts.{KnownFacts}
use Rattle.laws_items.proofs.MarkLemmas.{IsMarked}
use Rattle.laws_items.proofs.OnwardLemmas.{phase_by}
use Rattle.laws_row_facts.specs.Words.{implies, where_any}
use Rattle.laws_rows.specs.Answered.{AreAnswered}
use Rattle.laws_tasks.proofs.TaskFrames.{OpenedAlike}

-- ---- an instance of the task

-- it is marked as it was, in a task that is as it was opened
pub same_for : (a b : Task) (i : Inst) → OpenedAlike a b → IsMarked a b i → SameFor a b i
same_for a b i alike marked = record {
  want = λ j. want_in (alike.goal j) i;
  asks = λ j. is_among same_inst i (alike.to_ping j) && not (marked.pinged j);
}

pub goes_on_as : (a b : Task) (i : Inst) → OpenedAlike a b → IsMarked a b i → may_go_on b i ≡ may_go_on a i
goes_on_as a b i alike marked =
    λ j. is_some
    (phase_by (is_among same_inst i (alike.to_ping j) && not (marked.pinged j))
    (is_among same_inst i (alike.obsolete j) && not (marked.gone j))
    (is_among same_inst i (alike.changed j) && not (marked.finished j)) (4 + stage_of (plan_in (alike.goal j) i)))

pub budgeted_as : (a b : Task) (i : Inst) → OpenedAlike a b → is_budgeted b i ≡ is_budgeted a i
budgeted_as a b i alike = λ j. is_in (alike.goal j) i || is_among same_inst i (alike.obsolete j)

-- nothing is left to do for it
pub steps_settled : (built : KeyWork → List Digest → Digest) (m n : Moment) (s t : Task) (a : Account) (i : Inst)
    → KnownFacts m → n.calls ≡ m.calls → is_idle m (Instance i) ≡ true → may_go_on t i ≡ false → SameFor s t i
    → StepFacts built m s a i → StepFacts built n t a i
steps_settled built m n s t a i h calls idle over same f = record {
  sound = f.sound;
  room = f.room;
  answered = subst (λ (want : Option GoalRow). AreAnswered built want (a.first i) (a.steps i)) (sym same.want)
      f.answered;
  unasked = λ asks. f.unasked (sym same.asks ∙ asks);
  few = λ rests. (λ j. nat_le (a.made (Instance i)) (length (a.steps i) + one_if (not (same.asks j)))) ∙ f.few idle;
  leads = λ rests going. absurd (false≢true (sym over ∙ going));
  in_call = λ k call is own.
      absurd (none_open m (Instance i) h.numbers.past idle k call ((λ j. sym calls j k) ∙ is) (owner_is i call own));
}

-- ---- a machine of an earlier task

pub lock_itself : (a : Option (List ℕ)) → option_eq bytes_eq a a ≡ true
lock_itself (Some dep) = bytes_self dep
lock_itself None = refl

pub earlier_kept : (m n : Moment) (t : ℕ) (name : SlotName) → SameTasks m.known n.known → t ≤ m.known.tasks
    → is_of_earlier m.known t name ≡ true → is_of_earlier n.known t name ≡ true
earlier_kept m n t name same low is =
    let it : IsEarlier m t name = earlier_is m t name is in
    let grows : m.known.tasks ≤ n.known.tasks = same.tasks in
    let below : name.task ≤ m.known.tasks = it.low in
    and_from (not (name.task == t)) _ (λ j. not (it.other j))
    (and_from (nat_le name.task n.known.tasks) (option_eq bytes_eq (n.known.task name.task).dep (n.known.task t).dep)
    (le-leb name.task n.known.tasks (omega (arith, grows, below)))
    ((λ j. option_eq bytes_eq ((same.dep name.task below ∙ (it.same_dep ∙ sym (same.dep t low))) j)
    (n.known.task t).dep)
    ∙ lock_itself (n.known.task t).dep))

-- ---- all

-- no call is another, the compile machines are the same, and the task is as it was opened
pub record Still (m n : Moment) (t : ℕ) : Type 0 where
  pub calls : n.calls ≡ m.calls
  pub slot : n.known.slot ≡ m.known.slot
  pub alike : OpenedAlike (m.known.task t) (n.known.task t)
  pub count : (n.known.task t).calls ≡ (m.known.task t).calls
  pub grows : Grows m.known n.known
  pub tasks : SameTasks m.known n.known

pub few_as : (n : Moment) (t : ℕ) (old new : Task) (it : Account) → OpenedAlike old new
    → are_slots_few n t old it ≡ true → are_slots_few n t new it ≡ true
few_as n t old new it alike is = (λ j. are_slots_few n t (record old { goal = alike.goal j }) it) ∙ is

pub clean_still : (built : KeyWork → List Digest → Digest) (m n : Moment) (t : ℕ) (a : Account) → KnownFacts n
    → t ≤ m.known.tasks → Still m n t
    → ((i : Inst) → is_budgeted (n.known.task t) i ≡ true → StepFacts built n (n.known.task t) a i)
    → CleanFacts built m t a → CleanFacts built n t a
clean_still built m n t a h low still steps f = record {
  all_counted =
      counted_same t (m.known.task t) (n.known.task t) a a still.count still.alike.goal still.alike.obsolete refl refl
      f.all_counted;
  left_over = λ name.
      (λ j. implies (not (name.task == t)
      && holds (λ it. option_eq bytes_eq (Some it.dep) (still.alike.dep j)) (still.slot j name.task name.slot))
      (is_among same_slot name a.left_over))
      ∙ f.left_over name;
  steps = steps;
  slots_few =
      few_as n t (m.known.task t) (n.known.task t) a still.alike
      (slots_left m n t (m.known.task t) a a h still.grows (λ k j. still.slot j t k)
      (λ k x call is compiles. (call, (λ j. still.calls j x) ∙ is, refl)) (λ k. refl) f.slots_few);
  slot_calls = λ k. (λ j. where_any (is_slot_call t) (still.calls j k)) ∙ f.slot_calls k;
  sweep = λ name isin.
      let was : SweepFacts m t a name = f.sweep name isin in
      sweep_same m n t a a name h.numbers.past (earlier_kept m n t name still.tasks low was.earlier)
      (begins_of m n (owner_of name) (still_same m n (owner_of name) still.calls))
      (λ j. still.slot j name.task name.slot) refl was;
}
