-- What the facts of all tasks say of one: an open call of an item of a task is the task's, and groups have room.
use Rattle.std.proofs.Common.{◌≡◌, ◌∙◌, ℕ, ◌+◌, Bool, true, false, ◌&&◌, not, List, [], ◌∷◌, filter, Option, Some, None}
use Rattle.std.proofs.Common.{ap, refl, sym, arith}
use Rattle.std.specs.Prelude.{◌==◌, eqb, find, is_some, nat_le, nat_lt, if◌then◌else◌}
use Rattle.std.specs.Option.{option_eq}
use Rattle.std.specs.Str.{bytes_eq}
use Rattle.std.proofs.lemmas.Bool.{and_parts, eqb-true, false≢true}
use Rattle.std.proofs.lemmas.Bool.Decides.{nat_tests}
use Rattle.std.proofs.lemmas.Slice.Eq.{bytes_eq-Decides}
use Rattle.bosh_base.specs.declared.goal.Goal.{Goal}
use Rattle.bosh_base.specs.declared.goal.GoalRow.{GoalRow}
use Rattle.bosh_base.specs.declared.goal.GroupPlan.{GroupPlan}
use Rattle.bosh_base.specs.declared.inst.Inst.{Inst}
use Rattle.bosh_base.specs.declared.owner.Owner.{Owner}
use Rattle.bosh_base.specs.declared.owner.Owner.TheVariants.{Instance, Compile, Disk}
use Rattle.bosh_history.specs.Goals.{limit_of, named_instance}
use Rattle.bosh_history.specs.Items.{candidates, items}
use Rattle.bosh_history.specs.Items.{is_item, is_leftover, is_slot_left, is_to_change, is_to_go, is_to_ping, phase_of}
use Rattle.bosh_history.specs.Items.{stage_of}
use Rattle.bosh_history.specs.Known.{Slot, Task, plan_in}
use Rattle.bosh_history.specs.Moments.{Moment, OpenCall}
use Rattle.bosh_history.specs.Sound.{has_plan}
use Rattle.bosh_history.specs.Words.{is_among}
use Rattle.bosh_rows.proofs.SameLemmas.{same_inst_decides}
use Rattle.bosh_rows.specs.Same.{same_inst}
use Rattle.laws_facts.specs.Owners.{works}
use Rattle.laws_items.proofs.ListedLemmas.{NamesItsOwn}
use Rattle.laws_claims.proofs.Owned.{AreCallsOwn, HasPlans}
use Rattle.laws_items.proofs.ListLemmas.{all_in, find_in, holds_some, in_filtered}
use Rattle.laws_items.specs.Lists.{IsIn}
use Rattle.laws_items.proofs.PhaseLemmas.{IsLeft, of_item, tried}

-- the deployment of what two tasks have to do for one owner is one
same_dep : (dep : List ℕ) (other : Option (List ℕ)) → option_eq bytes_eq (Some dep) other ≡ true → other ≡ Some dep
same_dep dep (Some other) same = ap Some (sym ((bytes_eq-Decides dep other).0 same))
same_dep dep None same = absurd (false≢true same)

module _ (m : Moment) (are : AreCallsOwn m) where
  -- in which way an owner is the task's
  pub dep_of_instance : (t p : ℕ) (i : Inst) → works m t ≡ true → phase_of m.known t (Instance i) ≡ Some p
      → (m.known.task t).dep ≡ Some i.dep
  dep_of_instance t p i working at =
      by (is_to_ping (m.known.task t) i) (is_to_go (m.known.task t) i)
      (is_to_change (m.known.task t) i) refl refl refl at
    where
      own : NamesItsOwn (m.known.task t)
      own = are.tasks_name_their_own t working

      by : (ping go change : Bool) → is_to_ping (m.known.task t) i ≡ ping → is_to_go (m.known.task t) i ≡ go
          → is_to_change (m.known.task t) i ≡ change
          → (if ping then Some 0 else (if go then Some 3
          else (if change then Some (4 + stage_of (plan_in (m.known.task t).goal i)) else None))) ≡ Some p
          → (m.known.task t).dep ≡ Some i.dep
      by true go change asks goes changes at = own.asked i (and_parts _ _ asks).0
      by false true change asks goes changes at = own.leaving i (and_parts _ _ goes).0
      by false false true asks goes changes at = own.changing i (and_parts _ _ changes).0
      by false false false asks goes changes at = absurd cc

  -- a compile machine is the task's, or is recorded for its deployment
  data OfTask (t task s : ℕ) : Type 0 where
    its_own : task ≡ t → OfTask t task s
    left_over : (it : Slot) → m.known.slot task s ≡ Some it → (m.known.task t).dep ≡ Some it.dep → OfTask t task s

  of_task : (t p task s : ℕ) → phase_of m.known t (Compile task s) ≡ Some p → OfTask t task s
  of_task t p task s at = by (task == t) refl (is_leftover m.known t (record { task = task; slot = s })) refl at
    where
      by : (own : Bool) → (task == t) ≡ own → (over : Bool)
          → is_leftover m.known t (record { task = task; slot = s }) ≡ over
          → (if own then (if is_slot_left m.known t s then Some 2 else None) else
          (if over then Some 1 else None)) ≡ Some p
          → OfTask t task s
      by true own over left at = its_own (eqb-true task t own)
      by false own true left at =
          let it : (it : Slot) × (m.known.slot task s ≡ Some it) ×
          (option_eq bytes_eq (Some it.dep) (m.known.task t).dep ≡ true) =
          holds_some (λ it. option_eq bytes_eq (Some it.dep) (m.known.task t).dep) (m.known.slot task s)
          (and_parts (not (task == t)) _ left).1 in
          left_over it.0 it.1 (same_dep (it.0).dep (m.known.task t).dep it.2)
      by false own false left at = absurd cc

  same_machine : (t u task s : ℕ) → works m t ≡ true → works m u ≡ true → OfTask t task s
      → OfTask u task s → u ≡ t
  same_machine t u task s working open_ (its_own one) (its_own other) = sym other ∙ one
  same_machine t u task s working open_ (its_own one) (left_over it is dep) =
      are.locks_differ u t open_ working
      (dep ∙ sym (sym (ap (λ n. (m.known.task n).dep) one) ∙ are.machines_are_own task s it is))
  same_machine t u task s working open_ (left_over it is dep) (its_own other) =
      are.locks_differ u t open_ working
      ((sym (ap (λ n. (m.known.task n).dep) other) ∙ are.machines_are_own task s it is) ∙ sym dep)
  same_machine t u task s working open_ (left_over it is dep) (left_over also is_ dep_) =
      are.locks_differ u t open_ working
      (dep_ ∙ ap (λ (it : Slot). Some it.dep)
      (let e : Some also ≡ Some it = sym is_ ∙ is in let same : also ≡ it = cc in same) ∙ sym dep)

  pub same_task : (t u p q : ℕ) (o : Owner) → works m t ≡ true → works m u ≡ true
      → phase_of m.known t o ≡ Some p → phase_of m.known u o ≡ Some q → u ≡ t
  same_task t u p q (Instance i) working open_ at other =
      are.locks_differ u t open_ working (dep_of_instance u q i open_ other ∙ sym (dep_of_instance t p i working at))
  same_task t u p q (Compile task s) working open_ at other =
      same_machine t u task s working open_ (of_task t p task s at) (of_task u q task s other)
  same_task t u p q (Disk d) working open_ at other =
      are.locks_differ u t open_ working
      ((are.tasks_name_their_own u open_).deleting d (named_ (m.known.task u) q other)
      ∙ sym ((are.tasks_name_their_own t working).deleting d (named_ (m.known.task t) p at)))
    where
      named_ : (it : Task) (p : ℕ)
          → (if is_among eqb d it.disks && is_some (m.known.orphan d) then Some 0 else None) ≡ Some p
          → is_among eqb d it.disks ≡ true
      named_ it p at = by (is_among eqb d it.disks) (is_some (m.known.orphan d)) at
        where
          by : (a b : Bool) → (if a && b then Some 0 else None) ≡ Some p → a ≡ true
          by true b at = refl
          by false b at = absurd cc

  -- an open call of an item of a task is the task's
  pub calls_are_own : (t : ℕ) → works m t ≡ true → (n : ℕ) (call : OpenCall) → m.calls n ≡ Some call
      → is_item m.known t call.begin.owner ≡ true → call.begin.task ≡ t
  calls_are_own t working n call is item =
      let own : (p : ℕ) × IsLeft m.known t call.begin.owner p = of_item m.known t call.begin.owner item in
      let other : (p : ℕ) × IsLeft m.known call.begin.task call.begin.owner p =
      of_item m.known call.begin.task call.begin.owner (are.owners_are_items n call is) in
      same_task t call.begin.task own.0 other.0 call.begin.owner working
      (are.tasks_work n call is) own.1.phase other.1.phase

  -- an open call of a task is of an item of its present phase
  pub calls_are_of_items : (t n : ℕ) (call : OpenCall) → m.calls n ≡ Some call → call.begin.task ≡ t
      → IsIn call.begin.owner (items m.known t)
  calls_are_of_items t n call is of =
      let item : is_item m.known t call.begin.owner ≡ true =
      ap (λ t. is_item m.known t call.begin.owner) (sym of) ∙ are.owners_are_items n call is in
      let own : (p : ℕ) × IsLeft m.known t call.begin.owner p = of_item m.known t call.begin.owner item in
      in_filtered (is_item m.known t) call.begin.owner (candidates m.known t)
      (tried m.known t are.machines_are_listed call.begin.owner own.0 own.1.phase) item

-- ---- plans

abbrev has_room : List GroupPlan → Bool
has_room (plan ∷ []) = nat_le 1 plan.limit
has_room plans = false

abbrev limit_by : Option Inst → Option GroupPlan → ℕ
limit_by None (Some it) = it.limit
limit_by None None = 0
limit_by (Some i) plan = 1

first_of_all : (p : GroupPlan → Bool) (plan : GroupPlan) (plans more : List GroupPlan) → filter p plans ≡ plan ∷ more
    → find p plans ≡ Some plan
first_of_all p plan [] more is = absurd cc
first_of_all p plan (one ∷ plans) more is = by (p one) is (first_of_all p plan plans more)
  where
    by : (b : Bool) → (if b then one ∷ filter p plans else filter p plans) ≡ plan ∷ more
        → (filter p plans ≡ plan ∷ more → find p plans ≡ Some plan) → (if b then Some one else find p plans) ≡ Some plan
    by true is later = let same : one ≡ plan = cc in ap Some same
    by false is later = later is

-- the group of a changed instance has room for one update
pub groups_have_room : (goal : Goal) (t : Task) → HasPlans goal t → (i : Inst) → is_among same_inst i t.changed ≡ true
    → nat_lt 0 (limit_of t (plan_in t.goal i)) ≡ true
groups_have_room goal t has i changes =
    by (named_instance t.kind) (find (λ want. same_inst i want.inst) goal.rows) refl (has.changed_are_rows i changes)
  where
    planned : (want : GoalRow) (plans : List GroupPlan)
        → filter (λ plan. bytes_eq plan.name want.inst.group) goal.groups ≡ plans → has_room plans ≡ true
        → (plan : GroupPlan) × (plan_in (Some goal) want.inst ≡ Some plan) × (nat_lt 0 plan.limit ≡ true)
    planned want [] is room = absurd (false≢true room)
    planned want (plan ∷ []) is room = (
      plan,
      first_of_all (λ plan. bytes_eq plan.name want.inst.group) plan goal.groups [] is,
      grind
          (arith, nat_tests),
    )
    planned want (plan ∷ other ∷ plans) is room = absurd (false≢true room)

    by : (named_ : Option Inst) (want : Option GoalRow) → find (λ want. same_inst i want.inst) goal.rows ≡ want
        → is_some want ≡ true → nat_lt 0 (limit_by named_ (plan_in t.goal i)) ≡ true
    by (Some j) want is some = refl
    by None None is some = absurd (false≢true some)
    by None (Some want) is some =
        let found : IsIn want goal.rows × (same_inst i want.inst ≡ true) =
        find_in (λ want. same_inst i want.inst) want goal.rows is in
        let plan : (plan : GroupPlan) × (plan_in (Some goal) want.inst ≡ Some plan) × (nat_lt 0 plan.limit ≡ true) =
        planned want (filter (λ plan. bytes_eq plan.name want.inst.group) goal.groups) refl
        (all_in (has_plan goal) want goal.rows has.rows_have_plans found.0) in
        (λ j. nat_lt 0 (limit_by None (plan_in (has.goal_is j) ((same_inst_decides i want.inst).0 found.1 j))))
        ∙ (λ j. nat_lt 0 (limit_by None (plan.1 j))) ∙ plan.2
