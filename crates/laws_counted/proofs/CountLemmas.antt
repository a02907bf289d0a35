-- Each call of a clean task is of an owner that its budget counts.
use Rattle.std.proofs.Common.{◌≡◌, ◌∙◌, ℕ, ◌+◌, ◌≤◌, ◌<◌, Bool, true, false, Option, Some, None, List, ◌++◌}
use Rattle.std.proofs.Common.{ap, arith, inl, inr, refl, subst, sym}
use Rattle.std.specs.Prelude.{◌⊎◌, ◌&&◌, ◌==◌, find, if◌then◌else◌, is_some, length, map, nat_le, not, sum_by}
use Rattle.std.specs.Option.{option_map}
use Rattle.std.specs.Str.{bytes_eq}
use Rattle.std.proofs.lemmas.Bool.{and_from, and_parts, eqb-true, false≢true, le-leb, leb-true, or_cases, or_left}
use Rattle.std.proofs.lemmas.Bool.{or_right}
use Rattle.std.proofs.lemmas.Slice.Eq.{bytes_eq-Decides}
use Rattle.bosh_base.specs.declared.goal.GoalRow.{GoalRow}
use Rattle.bosh_base.specs.declared.inst.Inst.{Inst}
use Rattle.bosh_base.specs.declared.owner.Owner.{Owner}
use Rattle.bosh_base.specs.declared.owner.Owner.TheVariants.{Compile, Disk, Instance}
use Rattle.bosh_base.specs.declared.task.TaskKind.{TaskKind}
use Rattle.bosh_base.specs.declared.task.TaskKind.TheVariants as kinds
use Rattle.bosh_history.specs.Goals.{instances_of, is_in, named_instance}
use Rattle.bosh_history.specs.Items.{instance_phase, is_item, is_leftover, is_slot_left, is_to_change, is_to_go}
use Rattle.bosh_history.specs.Items.{is_to_ping}
use Rattle.bosh_history.specs.Items.{phase_of, slots_of, stage_of}
use Rattle.bosh_history.specs.Known.{SlotName, Task, plan_in}
use Rattle.bosh_history.specs.Moments.{Moment}
use Rattle.bosh_history.specs.Openings.{deploys}
use Rattle.bosh_history.specs.Orders.{same_slot}
use Rattle.bosh_history.specs.Sound.{has_plan}
use Rattle.bosh_history.specs.Words.{at, holds, is_among, numbers_below}
use Rattle.bosh_rows.proofs.SameLemmas.{same_inst_decides}
use Rattle.bosh_rows.specs.Same.{same_inst, same_owner}
use Rattle.laws_clean.proofs.PerformedLemmas.{no_disk_item}
use Rattle.laws_cloud.proofs.TellLemmas.{bytes_self, same_owner_itself}
use Rattle.laws_counted.proofs.SlotMoves.{slot_below}
use Rattle.laws_counted.proofs.SumLemmas.{sum_grows}
use Rattle.laws_counts.specs.Counts.{are_all_counted, budgeted, is_left_over, own_slots, owner_of}
use Rattle.laws_counts.specs.Courses.{Account}
use Rattle.laws_counts.specs.RowSteps.{is_budgeted}
use Rattle.laws_facts.specs.Facts.{Holds}
use Rattle.laws_facts.specs.KnownFacts.{KnownFacts}
use Rattle.laws_facts.specs.Owners.{works}
use Rattle.laws_facts.specs.Tasks.{is_of, is_recorded}
use Rattle.laws_items.proofs.AskedLemmas.{in_goal, item_dep}
use Rattle.laws_items.proofs.ListLemmas.{all_in, among_is, below_in, find_in, in_back, in_front, in_mapped}
use Rattle.laws_items.proofs.ListedLemmas.{Lists, ListsInstances, disks, goal_facts, implied, instances, lists}
use Rattle.laws_items.proofs.ListedLemmas.{names_its_own, rows_are_well}
use Rattle.laws_items.proofs.OnwardLemmas.{phase_by, slot_by}
use Rattle.laws_items.proofs.OwnerLemmas.{same_owner_is}
use Rattle.laws_items.proofs.PhaseLemmas.{IsLeft, of_item}
use Rattle.laws_items.specs.Lists.{IsIn}
use Rattle.laws_standing.proofs.ThroughLemmas.{changed_in}

-- ---- an instance

-- a deploy is of no single instance
names_none : (kind : TaskKind) → deploys kind ≡ true → not (is_some (named_instance kind)) ≡ true
names_none kinds.Deploy is = refl
names_none kinds.Fix is = refl
names_none (kinds.Recreate i) is = absurd (false≢true is)
names_none (kinds.Start i) is = absurd (false≢true is)
names_none (kinds.Stop i) is = absurd (false≢true is)
names_none (kinds.Resolve i) is = absurd (false≢true is)
names_none kind is = refl

module _ (m : Moment) (h : KnownFacts m) (t : ℕ) (working : works m t ≡ true) where
  abbrev task : Task
  task = m.known.task t

  -- one that is in its budget is of its deployment
  pub budgeted_dep : (i : Inst) → is_budgeted task i ≡ true → task.dep ≡ Some i.dep
  budgeted_dep i is = by (or_cases (is_in task.goal i) (is_among same_inst i task.obsolete) is)
    where
      of_row : (it : ListsInstances task) (want : Option GoalRow)
          → find (λ want. same_inst i want.inst) it.goal.rows ≡ want → is_some want ≡ true → task.dep ≡ Some i.dep
      of_row it (Some want) at some =
          let (isin, same) = find_in (λ want. same_inst i want.inst) want it.goal.rows at in
          let of_goal : bytes_eq want.inst.dep it.goal.dep ≡ true =
          (and_parts (bytes_eq want.inst.dep it.goal.dep) _
          (all_in (λ want. bytes_eq want.inst.dep it.goal.dep && has_plan it.goal want) want it.goal.rows
          (rows_are_well m t h working it) isin)).0 in
          it.dep_is
          ∙ ap Some
          (sym (goal_facts m t h working it).of_dep
          ∙ sym ((bytes_eq-Decides want.inst.dep it.goal.dep).0 of_goal)
          ∙ ap (λ (j : Inst). j.dep) (sym ((same_inst_decides i want.inst).0 same)))
      of_row it None at some = absurd (false≢true some)

      listed : Lists task → is_in task.goal i ≡ true → task.dep ≡ Some i.dep
      listed (disks it) there = absurd (false≢true ((λ j. is_in (sym it.goal_is j) i) ∙ there))
      listed (instances it) there =
          of_row it (find (λ want. same_inst i want.inst) it.goal.rows) refl
          (sym (λ j. is_in (it.goal_is j) i) ∙ there)

      by : (is_in task.goal i ≡ true) ⊎ (is_among same_inst i task.obsolete ≡ true) → task.dep ≡ Some i.dep
      by (inl there) = listed (lists m t h working) there
      by (inr goes) = (names_its_own m t h working).leaving i goes

  -- one that is an item of a deploy is in its budget
  module _ (deploy : deploys task.kind ≡ true) (i : Inst) (item : is_item m.known t (Instance i) ≡ true) where
    -- that is asked
    of_asked : is_to_ping task i ≡ true → is_budgeted task i ≡ true
    of_asked asks = by (is_recorded m.known i) refl
      where
        machine : is_some (m.known.row i).vm ≡ true
        machine =
            (and_parts (is_some (m.known.row i).vm) _
            (implied (is_to_ping task i) _ (((h.tasks t).working working).can_be_asked i) asks)).0

        by : (there : Bool) → is_recorded m.known i ≡ there → is_budgeted task i ≡ true
        by true there =
            from (or_cases (is_in task.goal i) (is_to_go task i)
            (implied (not (is_some (named_instance task.kind))
            && (is_recorded m.known i && holds (λ dep. is_of dep i) task.dep)) _
            (((h.tasks t).working working).has_place i)
            (and_from (not (is_some (named_instance task.kind))) _ (names_none task.kind deploy)
            (and_from (is_recorded m.known i) _ there
            ((λ j. holds (λ dep. is_of dep i) (item_dep m h t working i item j)) ∙ bytes_self i.dep)))))
          where
            from : (is_in task.goal i ≡ true) ⊎ (is_to_go task i ≡ true) → is_budgeted task i ≡ true
            from (inl in_it) = or_left (is_in task.goal i) _ in_it
            from (inr goes) =
                or_right (is_in task.goal i) _ (and_parts (is_among same_inst i task.obsolete) _ goes).0
        by false absent =
            absurd (false≢true ((λ j. is_some (sym (h.lists.bare i absent) j).vm) ∙ machine))

    pub item_budgeted : is_budgeted task i ≡ true
    item_budgeted =
        by (is_to_ping task i) refl (is_to_go task i) refl (is_to_change task i) refl
        (of_item m.known t (Instance i) item)
      where
        by : (asks : Bool) → is_to_ping task i ≡ asks → (goes : Bool) → is_to_go task i ≡ goes → (changes : Bool)
            → is_to_change task i ≡ changes → (p : ℕ) × IsLeft m.known t (Instance i) p → is_budgeted task i ≡ true
        by true asks goes is_go changes is_change it = of_asked asks
        by false none true goes changes is_change it =
            or_right (is_in task.goal i) _ (and_parts (is_among same_inst i task.obsolete) _ goes).0
        by false none false stays true changes it =
            or_left (is_in task.goal i) _
            (changed_in m h t working i (and_parts (is_among same_inst i task.changed) _ changes).0)
        by false none false stays false rests it =
            let nothing : instance_phase task i ≡ None =
            λ j. phase_by (none j) (stays j) (rests j) (4 + stage_of (plan_in task.goal i)) in
            let some : instance_phase task i ≡ Some it.0 = it.1.phase in absurd cc

-- ---- the list

pub same_name : (a b : SlotName) → same_slot a b ≡ true → a ≡ b
same_name a b same =
    let (task, slot) = and_parts (a.task == b.task) (a.slot == b.slot) same in
    λ j. record { task = eqb-true a.task b.task task j; slot = eqb-true a.slot b.slot slot j }

in_instances : (i : Inst) (xs : List Inst) → is_among same_inst i xs ≡ true → IsIn i xs
in_instances i xs is = among_is same_inst (λ a b. (same_inst_decides a b).0) i xs is

module _ (t : ℕ) (task : Task) (it : Account) where
  abbrev All : List Owner
  All = budgeted t task it

  row_in : (i : Inst) → is_budgeted task i ≡ true → IsIn (Instance i) All
  row_in i is = by (or_cases (is_in task.goal i) (is_among same_inst i task.obsolete) is)
    where
      by : (is_in task.goal i ≡ true) ⊎ (is_among same_inst i task.obsolete ≡ true) → IsIn (Instance i) All
      by (inl there) =
          in_front (Instance i) (map Instance (instances_of task.goal) ++ map Instance task.obsolete ++
          own_slots t task)
          (map owner_of it.left_over)
          (in_front (Instance i) (map Instance (instances_of task.goal) ++ map Instance task.obsolete)
          (own_slots t task)
          (in_front (Instance i) (map Instance (instances_of task.goal)) (map Instance task.obsolete)
          (in_mapped Instance i (instances_of task.goal)
          (in_instances i (instances_of task.goal) (in_goal task.goal i there)))))
      by (inr goes) =
          in_front (Instance i) (map Instance (instances_of task.goal) ++ map Instance task.obsolete ++
          own_slots t task)
          (map owner_of it.left_over)
          (in_front (Instance i) (map Instance (instances_of task.goal) ++ map Instance task.obsolete)
          (own_slots t task)
          (in_back (Instance i) (map Instance (instances_of task.goal)) (map Instance task.obsolete)
          (in_mapped Instance i task.obsolete (in_instances i task.obsolete goes))))

  slot_in : (s : ℕ) → s < length (slots_of task.goal) → IsIn (Compile t s) All
  slot_in s low =
      in_front (Compile t s) (map Instance (instances_of task.goal) ++ map Instance task.obsolete ++ own_slots t task)
      (map owner_of it.left_over)
      (in_back (Compile t s) (map Instance (instances_of task.goal) ++ map Instance task.obsolete) (own_slots t task)
      (in_mapped (Compile t) s (numbers_below (length (slots_of task.goal)))
      (below_in s (length (slots_of task.goal)) low)))

  swept_in : (name : SlotName) → is_among same_slot name it.left_over ≡ true → IsIn (owner_of name) All
  swept_in name is =
      in_back (owner_of name)
      (map Instance (instances_of task.goal) ++ map Instance task.obsolete ++ own_slots t task)
      (map owner_of it.left_over)
      (in_mapped owner_of name it.left_over (among_is same_slot same_name name it.left_over is))

-- an item of a deploy is one of the list
pub item_counted : (m : Moment) → Holds m → (t : ℕ) → works m t ≡ true → deploys (m.known.task t).kind ≡ true
    → (it : Account) → ((name : SlotName) → is_left_over m.known t it name ≡ true) → (owner : Owner)
    → is_item m.known t owner ≡ true → IsIn owner (budgeted t (m.known.task t) it)
item_counted m h t working deploy it left (Instance i) item =
    row_in t (m.known.task t) it i (item_budgeted m h.known t working deploy i item)
item_counted m h t working deploy it left (Compile task s) item = by (task == t) refl
  where
    name : SlotName
    name = record { task = task; slot = s }

    swept : (over : Bool) → is_leftover m.known t name ≡ over → (task == t) ≡ false
        → (p : ℕ) × IsLeft m.known t (Compile task s) p → IsIn (Compile task s) (budgeted t (m.known.task t) it)
    swept true over other found =
        swept_in t (m.known.task t) it name (implied (is_leftover m.known t name) _ (left name) over)
    swept false over other found =
        let none : phase_of m.known t (Compile task s) ≡ None =
        λ j. slot_by (other j) (is_slot_left m.known t s) (over j) in
        let some : phase_of m.known t (Compile task s) ≡ Some found.0 = found.1.phase in absurd cc

    by : (own : Bool) → (task == t) ≡ own → IsIn (Compile task s) (budgeted t (m.known.task t) it)
    by true own =
        subst (λ (n : ℕ). IsIn (Compile n s) (budgeted t (m.known.task t) it)) (sym (eqb-true task t own))
        (slot_in t (m.known.task t) it s
        (slot_below m.known t s (sym (λ j. is_item m.known t (Compile (eqb-true task t own j) s)) ∙ item)))
    by false other =
        swept (is_leftover m.known t name) refl other (of_item m.known t (Compile task s) item)
item_counted m h t working deploy it left (Disk d) item = absurd (no_disk_item m h t working deploy d item)

-- ---- their calls

pub counted_same : (t : ℕ) (old new : Task) (a b : Account) → new.calls ≡ old.calls → new.goal ≡ old.goal
    → new.obsolete ≡ old.obsolete → b.left_over ≡ a.left_over → b.made ≡ a.made → are_all_counted t old a ≡ true
    → are_all_counted t new b ≡ true
counted_same t old new a b calls goal obsolete left made is =
    (λ j. holds (λ n. nat_le n (sum_by (made j)
    (map Instance (instances_of (goal j)) ++ map Instance (obsolete j)
    ++ map (Compile t) (numbers_below (length (slots_of (goal j)))) ++ map owner_of (left j)))) (calls j))
    ∙ is

pub counted_begun : (t : ℕ) (old new : Task) (a b : Account) (owner : Owner) → IsIn owner (budgeted t old a)
    → new.calls ≡ option_map (λ n. n + 1) old.calls → new.goal ≡ old.goal → new.obsolete ≡ old.obsolete
    → b.left_over ≡ a.left_over → b.made ≡ at same_owner owner (a.made owner + 1) a.made
    → are_all_counted t old a ≡ true → are_all_counted t new b ≡ true
counted_begun t old new a b owner isin calls goal obsolete left made is =
    (λ j. holds (λ n. nat_le n (sum_by (made j)
    (map Instance (instances_of (goal j)) ++ map Instance (obsolete j)
    ++ map (Compile t) (numbers_below (length (slots_of (goal j)))) ++ map owner_of (left j)))) (calls j))
    ∙ by old.calls is
  where
    now : Owner → ℕ
    now = at same_owner owner (a.made owner + 1) a.made

    grown : sum_by a.made (budgeted t old a) + 1 ≤ sum_by now (budgeted t old a)
    grown =
        sum_grows a.made now owner (budgeted t old a) isin (λ other is. more other (same_owner owner other) refl)
        (subst (λ (x : ℕ). a.made owner + 1 ≤ x)
        (λ j. if sym (same_owner_itself owner) j then a.made owner + 1 else a.made owner) (omega arith))
      where
        more : (other : Owner) (same : Bool) → same_owner owner other ≡ same
            → a.made other ≤ (if same then a.made owner + 1 else a.made other)
        more other true same =
            subst (λ (it : Owner). a.made it ≤ a.made owner + 1) (same_owner_is owner other same) (omega arith)
        more other false same = omega arith

    by : (count : Option ℕ) → holds (λ n. nat_le n (sum_by a.made (budgeted t old a))) count ≡ true
        → holds (λ n. nat_le n (sum_by now (budgeted t old a))) (option_map (λ n. n + 1) count) ≡ true
    by (Some n) low =
        let few : n ≤ sum_by a.made (budgeted t old a) = leb-true n (sum_by a.made (budgeted t old a)) low in
        le-leb (n + 1) (sum_by now (budgeted t old a)) (omega (arith, few, grown))
    by None low = absurd (false≢true low)
