-- The compile machines that a task sweeps are those that are left over for it, in the same order, and each is of a task that
-- has ended.
use Rattle.std.proofs.Common.{◌≡◌, ◌∙◌, ℕ, ◌+◌, ◌≤◌, ◌<◌, Bool, true, false, ◌&&◌, ◌||◌, ◌==◌, not, List, [], ◌∷◌}
use Rattle.std.proofs.Common.{filter, map, Option, Some, None, ap, arith, refl, sym}
use Rattle.std.specs.Prelude.{eqb, is_some, nat_le, if◌then◌else◌}
use Rattle.std.specs.Cmp.{IsTotalOrder}
use Rattle.std.specs.List.{list_all}
use Rattle.std.specs.Option.{option_and_then, option_eq, option_map, option_map_or}
use Rattle.std.specs.Ordering.{nat_cmp}
use Rattle.std.specs.Str.{bytes_eq}
use Rattle.std.specs.declared.cmp.Ordering.TheVariants.{Equal}
use Rattle.std.proofs.lemmas.Bool.{and_parts, eq-eqb, eqb-true, false≢true, leb-true, ne_eqb}
use Rattle.std.proofs.lemmas.Bool.Decides.{nat_tests}
use Rattle.std.proofs.lemmas.Cmp.{nat_cmp_total, on_total, then_total}
use Rattle.std.proofs.lemmas.Map.Lookups.{exact_unsigned}
use Rattle.bosh_base.specs.declared.entry.Entry.TheVariants as entries
use Rattle.bosh_base.specs.declared.entry.TaskOpen.{TaskOpen}
use Rattle.bosh_base.specs.declared.snapshot.CompileRow.{CompileRow}
use Rattle.bosh_history.specs.Held.{is_open}
use Rattle.bosh_history.specs.Items.{is_in_deployment, is_leftover}
use Rattle.bosh_history.specs.Known.{Known, Slot, SlotName}
use Rattle.bosh_history.specs.Openings.{MayOpen}
use Rattle.bosh_history.specs.Orders.{same_slot, slot_cmp}
use Rattle.bosh_history.specs.Tasks.{task_opened}
use Rattle.bosh_history.specs.Words.{holds, is_among}
use Rattle.bosh_plan.specs.WorkBy.{is_of, is_swept, swept_in}
use Rattle.bosh_records.specs.Readers.{machine_cmp}
use Rattle.bosh_records.specs.Recorded.{Recorded}
use Rattle.bosh_records.specs.Table.{found}
use Rattle.bosh_records.specs.declared.machines.Machine.{Machine}
use Rattle.bosh_rows.specs.Standing.{same_truth}
use Rattle.bosh_work.specs.declared.part.MachineName.{MachineName}
use Rattle.laws_facts.proofs.InstanceLemmas.{then_equal}
use Rattle.laws_facts.proofs.LockLemmas.{locks_equal, no_other}
use Rattle.laws_facts.proofs.MachineLemmas.{slot_tells}
use Rattle.laws_facts.proofs.WorkLemmas.{opens_next}
use Rattle.laws_row_facts.specs.Words.{are_ascending, is_below, where_any}
use Rattle.laws_stands.proofs.DeploymentLemmas.{bytes_flip}
use Rattle.laws_stands.proofs.OrderLemmas.{once_of}
use Rattle.laws_stands.specs.Linked.{same_machine}
use Rattle.laws_stands.specs.Stands.{AreSwept, StandsIn, row_of_slot}
use Rattle.laws_stands.specs.Told.{Told, is_going, telling}
use Rattle.laws_stands_fits.specs.Fits.{SweepsEnded}
use Rattle.laws_stands_on.proofs.KeyLemmas.{eq_then, machine_keys}
use Rattle.laws_stands_on.proofs.TableLemmas.{nat_at}
use Rattle.laws_stands_works.proofs.InOrderLemmas.{among_kept, kept_in_order, same_in_order}
use Rattle.laws_stands_works.proofs.KeptLemmas.{all_among, all_kept, among_filtered, filtered_in_order}
use Rattle.laws_stands_works.proofs.OwnLemmas.{IsOrderly}
use Rattle.std.specs.BTreeMap.{is_at}

-- ---- names of machines

machine_at : (a b : MachineName) → is_at (machine_cmp a) b ≡ same_machine a b
machine_at a b = eq_then (nat_cmp a.task b.task) (nat_cmp a.slot b.slot)
    ∙ (λ j. nat_at a.task b.task j && nat_at a.slot b.slot j)

pub slot_total : IsTotalOrder slot_cmp
slot_total = then_total (on_total (λ (it : SlotName). it.task) nat_cmp_total)
    (on_total (λ (it : SlotName). it.slot) nat_cmp_total)

pub slot_equal : (a b : SlotName) → slot_cmp a b ≡ Equal → a ≡ b
slot_equal a b is =
    let parts : (nat_cmp a.task b.task ≡ Equal) × (nat_cmp a.slot b.slot ≡ Equal) =
    then_equal (nat_cmp a.task b.task) (nat_cmp a.slot b.slot) is in
    λ i. record { task = exact_unsigned a.task b.task parts.0 i; slot = exact_unsigned a.slot b.slot parts.1 i }

pub slot_is : (a b : SlotName) → same_slot a b ≡ true → a ≡ b
slot_is a b same =
    let parts : (eqb a.task b.task ≡ true) × (eqb a.slot b.slot ≡ true) =
    and_parts (eqb a.task b.task) (eqb a.slot b.slot) same in
    λ i. record { task = eqb-true a.task b.task parts.0 i; slot = eqb-true a.slot b.slot parts.1 i }

pub slot_own : (a : SlotName) → same_slot a a ≡ true
slot_own a = λ i. eq-eqb a.task a.task refl i && eq-eqb a.slot a.slot refl i

pub machine_own : (a : MachineName) → same_machine a a ≡ true
machine_own a = λ i. eq-eqb a.task a.task refl i && eq-eqb a.slot a.slot refl i

abbrev slot_name : MachineName → SlotName
slot_name name = record { task = name.task; slot = name.slot }

abbrev machine_name : SlotName → MachineName
machine_name name = record { task = name.task; slot = name.slot }

among_named : (name : SlotName) (xs : List MachineName)
    → is_among same_slot name (map slot_name xs) ≡ is_among same_machine (machine_name name) xs
among_named name [] = refl
among_named name (x ∷ xs) = ap (λ b. same_slot name (slot_name x) || b) (among_named name xs)

below_named : (x : MachineName) (xs : List MachineName)
    → is_below slot_cmp (slot_name x) (map slot_name xs) ≡ is_below machine_cmp x xs
below_named x [] = refl
below_named x (y ∷ xs) = refl

order_named : (xs : List MachineName) → are_ascending slot_cmp (map slot_name xs) ≡ are_ascending machine_cmp xs
order_named [] = refl
order_named (x ∷ xs) = λ i. below_named x xs i && order_named xs i

-- ---- what is swept

-- what is known of a machine that is of the deployment
pub record IsOwnMachine (k : Known) (dep : Option (List ℕ)) (name : MachineName) : Type 0 where
  pub row : Slot
  pub is_there : k.slot name.task name.slot ≡ Some row
  pub dep_is : dep ≡ Some row.dep

-- a machine is of a task that was opened, and of its deployment
record IsOfTask (k : Known) (t : ℕ) (row : Slot) : Type 0 where
  low : 1 ≤ t
  high : t ≤ k.tasks
  dep_is : (k.task t).dep ≡ Some row.dep

module _ (told : Told) (it : Recorded) (stands : StandsIn told it) (o : TaskOpen) (well : IsOrderly told.known)
    (may : MayOpen told.known o) where
  abbrev k : Known
  k = told.known

  abbrev new : Told
  new = telling told (entries.TaskOpen o)

  abbrev swept : List MachineName
  swept = swept_in o.dep it.machines

  -- what is known of a machine is of the deployment of the task
  abbrev is_own : Option Slot → Bool
  is_own slot = holds (λ it. is_of o.dep it.dep) slot

  -- a machine is swept where what is known of it is of the deployment
  among_swept : (name : MachineName) → is_among same_machine name swept ≡ is_own (k.slot name.task name.slot)
  among_swept name =
      among_kept machine_cmp machine_keys same_machine machine_at (λ place. is_swept o.dep place.1) it.machines
      (once_of stands.ordered).machines name
      ∙ of (found machine_cmp it.machines name) (k.slot name.task name.slot) (stands.machines name)
    where
      of : (place : Option (Option Machine)) (slot : Option Slot)
          → option_map (λ (machine : Machine). machine.row) (option_and_then (λ place. place) place)
          ≡ option_map (row_of_slot name.task name.slot) slot
          → option_map_or (λ x. is_swept o.dep x) place false ≡ is_own slot
      of (Some (Some machine)) (Some slot) same =
          let row : machine.row ≡ row_of_slot name.task name.slot slot = cc in
          ap (λ (row : CompileRow). is_of o.dep row.dep) row
      of (Some (Some machine)) None same = absurd cc
      of (Some None) (Some slot) same = absurd cc
      of (Some None) None same = refl
      of None (Some slot) same = absurd cc
      of None None same = refl

  -- what is known of one that is
  pub own_machine : (name : MachineName) → is_among same_machine name swept ≡ true → IsOwnMachine k o.dep name
  own_machine name among = by (k.slot name.task name.slot) refl (sym (among_swept name) ∙ among)
    where
      of : (dep : Option (List ℕ)) (own : List ℕ) → is_of dep own ≡ true → dep ≡ Some own
      of (Some dep) own is = locks_equal (Some dep) (Some own) is
      of None own is = absurd (false≢true is)

      by : (slot : Option Slot) → k.slot name.task name.slot ≡ slot → is_own slot ≡ true → IsOwnMachine k o.dep name
      by (Some row) is own = record { row = row; is_there = is; dep_is = of o.dep row.dep own }
      by None is own = absurd (false≢true own)

  -- ---- of earlier tasks

  of_task : (t s : ℕ) (row : Slot) → k.slot t s ≡ Some row → IsOfTask k t row
  of_task t s row is = of (of_slot (k.slot t s) is (well.of_tasks t s))
    where
      of_slot : (slot : Option Slot) → slot ≡ Some row
          → where_any (λ (it : Slot). nat_le 1 t && (nat_le t k.tasks && option_eq bytes_eq (Some it.dep) (k.task t).dep)) slot
          ≡ true
          → (nat_le 1 t && (nat_le t k.tasks && option_eq bytes_eq (Some row.dep) (k.task t).dep)) ≡ true
      of_slot slot is fact =
          sym (ap (where_any (λ (it : Slot). nat_le 1 t
          && (nat_le t k.tasks && option_eq bytes_eq (Some it.dep) (k.task t).dep))) is) ∙ fact

      of : (nat_le 1 t && (nat_le t k.tasks && option_eq bytes_eq (Some row.dep) (k.task t).dep)) ≡ true → IsOfTask k t row
      of fact =
          let (one, more) = and_parts (nat_le 1 t) (nat_le t k.tasks && option_eq bytes_eq (Some row.dep) (k.task t).dep) fact in
          let (two, dep) = and_parts (nat_le t k.tasks) (option_eq bytes_eq (Some row.dep) (k.task t).dep) more in
          record {
            low = leb-true 1 t one;
            high = leb-true t k.tasks two;
            dep_is = sym (locks_equal (Some row.dep) (k.task t).dep dep);
          }

  next : o.task ≡ k.tasks + 1
  next = opens_next k o may

  pub earlier : (t s : ℕ) (row : Slot) → k.slot t s ≡ Some row → eqb t o.task ≡ false
  earlier t s row is = let of : IsOfTask k t row = of_task t s row is in
      ne_eqb t o.task (λ same. absurd (let high : t ≤ k.tasks = of.high in let up : o.task ≡ k.tasks + 1 = next in omega arith))

  -- a machine that is listed is of an earlier task
  pub none_of_task : list_all (λ (name : SlotName). not (name.task == o.task)) k.machines ≡ true
  none_of_task = all_among same_slot slot_own (λ (name : SlotName). not (name.task == o.task)) k.machines of
    where
      of : (name : SlotName) → is_among same_slot name k.machines ≡ true → not (name.task == o.task) ≡ true
      of name among = by (k.slot name.task name.slot) refl
          (ap (λ b. same_truth b (is_some (k.slot name.task name.slot))) (sym among)
          ∙ well.machine_listed name.task name.slot)
        where
          by : (slot : Option Slot) → k.slot name.task name.slot ≡ slot → is_some slot ≡ true
              → not (name.task == o.task) ≡ true
          by (Some row) is there = ap not (earlier name.task name.slot row is)
          by None is there = absurd (false≢true there)

  -- ---- they have ended

  pub ended : (name : MachineName) → is_among same_machine name swept ≡ true → SweepsEnded new o.task name
  ended name among = by (is_open k name.task) refl
    where
      own : IsOwnMachine k o.dep name
      own = own_machine name among

      of : IsOfTask k name.task own.row
      of = of_task name.task name.slot own.row own.is_there

      below : name.task < o.task
      below = let high : name.task ≤ k.tasks = of.high in let up : o.task ≡ k.tasks + 1 = next in omega arith

      other : eqb o.task name.task ≡ false
      other = ne_eqb o.task name.task (λ same. let low : name.task < o.task = below in omega arith)

      by : (b : Bool) → is_open k name.task ≡ b → SweepsEnded new o.task name
      by true going = absurd (no_other k o name.task may
          (let low : 1 ≤ name.task = of.low in let high : name.task ≤ k.tasks = of.high in grind (arith, nat_tests, going))
          (of.dep_is ∙ sym own.dep_is))
      by false done = (below, closed)
        where
          closed : is_going new.known name.task ≡ false
          closed = (λ i. nat_le 1 name.task && (nat_le name.task o.task
              && not (is_some ((if other i then task_opened k o else k.task name.task).end))))
              ∙ (λ i. nat_le 1 name.task && (nat_le name.task o.task && done i))
              ∙ none (nat_le 1 name.task) (nat_le name.task o.task)
            where
              none : (a b : Bool) → (a && (b && false)) ≡ false
              none true true = refl
              none true false = refl
              none false b = refl

  -- ---- they are those that are left over

  pub swept_there : list_all (λ (name : MachineName). is_some (k.slot name.task name.slot)) swept ≡ true
  swept_there = all_among same_machine machine_own (λ (name : MachineName). is_some (k.slot name.task name.slot)) swept
      (λ name among. ap is_some (own_machine name among).is_there)

  -- a machine is left over where it is of the deployment
  left : (name : SlotName) → (is_leftover new.known o.task name && is_among same_slot name k.machines)
      ≡ is_own (k.slot name.task name.slot)
  left name = task ∙ by (k.slot name.task name.slot) refl (is_among same_slot name k.machines)
      (well.machine_listed name.task name.slot)
    where
      dep_flip : (dep : Option (List ℕ)) (own : List ℕ) → option_eq bytes_eq (Some own) dep ≡ is_of dep own
      dep_flip (Some dep) own = bytes_flip own dep
      dep_flip None own = refl

      task : (is_leftover new.known o.task name && is_among same_slot name k.machines)
          ≡ ((not (name.task == o.task) && is_in_deployment k o.dep name) && is_among same_slot name k.machines)
      task = λ i. (not (name.task == o.task)
          && is_in_deployment k (if eq-eqb o.task o.task refl i then task_opened k o else k.task o.task).dep name)
          && is_among same_slot name k.machines

      by : (slot : Option Slot) → k.slot name.task name.slot ≡ slot → (listed : Bool)
          → same_truth listed (is_some (k.slot name.task name.slot)) ≡ true
          → ((not (name.task == o.task) && is_in_deployment k o.dep name) && listed) ≡ is_own (k.slot name.task name.slot)
      by (Some row) is true truth =
          (λ i. (not (earlier name.task name.slot row is i) && holds (λ (it : Slot). option_eq bytes_eq (Some it.dep) o.dep) (is i))
          && true)
          ∙ and_true (option_eq bytes_eq (Some row.dep) o.dep) ∙ dep_flip o.dep row.dep ∙ sym (ap is_own is)
        where
          and_true : (b : Bool) → ((true && b) && true) ≡ b
          and_true true = refl
          and_true false = refl
      by (Some row) is false truth = absurd (false≢true (sym (ap not (ap is_some is)) ∙ truth))
      by None is listed truth =
          (λ i. (not (name.task == o.task) && holds (λ (it : Slot). option_eq bytes_eq (Some it.dep) o.dep) (is i)) && listed)
          ∙ none (not (name.task == o.task)) listed ∙ sym (ap is_own is)
        where
          none : (a b : Bool) → ((a && false) && b) ≡ false
          none true b = refl
          none false b = refl

  pub are_swept : AreSwept new.known o.task swept
  are_swept =
      ap (map slot_name) (all_kept (λ (name : MachineName). is_some (k.slot name.task name.slot)) swept swept_there)
      ∙ same_in_order slot_cmp slot_total same_slot slot_tells slot_equal slot_is slot_own (map slot_name swept)
      (filter (is_leftover new.known o.task) k.machines)
      (order_named swept
      ∙ kept_in_order machine_cmp machine_keys same_machine machine_at (λ place. is_swept o.dep place.1) it.machines
      stands.ordered.machines)
      (filtered_in_order slot_cmp slot_total (is_leftover new.known o.task) k.machines well.machines)
      (λ name. among_named name swept ∙ among_swept (machine_name name) ∙ sym (left name)
      ∙ sym (among_filtered same_slot slot_is (is_leftover new.known o.task) k.machines name))
