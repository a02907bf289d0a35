-- What the tables of records that stand say, in order, is what is known.
use Rattle.std.proofs.Common.{◌≡◌, ◌∙◌, ℕ, suc, zero, ◌≤◌, Bool, true, false, ◌&&◌, ◌||◌, List, [], ◌∷◌, ◌++◌, Option, Some, None}
use Rattle.std.proofs.Common.{ap, arith, filter, map, refl, sym}
use Rattle.std.specs.Prelude.{eqb, find, is_some, nat_le, ◌==◌, if◌then◌else◌}
use Rattle.std.specs.Cmp.{IsTotalOrder}
use Rattle.std.specs.List.{list_all, list_any}
use Rattle.std.specs.Option.{option_and_then, option_map}
use Rattle.std.specs.Ordering.{nat_cmp}
use Rattle.std.specs.Str.{bytes_eq}
use Rattle.std.proofs.lemmas.Bool.{and_from, and_parts, eq-eqb, false≢true, leb-true}
use Rattle.std.proofs.lemmas.Bool.Decides.{eqb_tells, nat_tests}
use Rattle.std.proofs.lemmas.Cmp.{nat_cmp_total, on_total, then_total}
use Rattle.bosh_base.specs.Cloud.{numbers_to}
use Rattle.bosh_base.specs.Inst.{inst_cmp}
use Rattle.bosh_base.specs.declared.entry.Begin.{Begin}
use Rattle.bosh_base.specs.declared.goal.Goal.{Goal}
use Rattle.bosh_base.specs.declared.inst.Inst.{Inst}
use Rattle.bosh_base.specs.declared.row.Row.{Row}
use Rattle.bosh_base.specs.declared.snapshot.CompileRow.{CompileRow}
use Rattle.bosh_base.specs.declared.snapshot.DepRow.{DepRow}
use Rattle.bosh_base.specs.declared.snapshot.Orphan.{Orphan}
use Rattle.bosh_base.specs.declared.task.TaskRow.{TaskRow}
use Rattle.bosh_history.specs.Known.{Known, Slot, SlotName}
use Rattle.bosh_history.specs.Moments.{Moment}
use Rattle.bosh_history.specs.Snapshots.{dep_row, task_row}
use Rattle.bosh_history.specs.Orders.{same_slot, slot_cmp}
use Rattle.bosh_history.specs.Words.{is_among}
use Rattle.bosh_records.specs.Readers.{deployment_of, goal_of, machine_cmp}
use Rattle.bosh_records.specs.Table.{found}
use Rattle.bosh_records.specs.declared.instances.Instance.{Instance}
use Rattle.bosh_records.specs.declared.machines.Machine.{Machine}
use Rattle.bosh_records.specs.declared.orphans.LooseDisk.{LooseDisk}
use Rattle.bosh_records.specs.declared.records.Records.{Records}
use Rattle.bosh_rows.proofs.SameLemmas.{itself}
use Rattle.bosh_rows.specs.Same.{same_inst}
use Rattle.bosh_rows.specs.Standing.{same_truth}
use Rattle.bosh_work.specs.declared.part.MachineName.{MachineName}
use Rattle.laws_facts.proofs.InstanceLemmas.{inst_total}
use Rattle.laws_facts.proofs.ListLemmas.{among_one_more}
use Rattle.laws_facts.specs.CallFacts.{named}
use Rattle.laws_facts.specs.KnownFacts.{KnownFacts}
use Rattle.laws_row_facts.specs.Words.{are_ascending, is_before, where_any}
use Rattle.laws_stands.proofs.DeploymentLemmas.{found_row}
use Rattle.laws_stands.proofs.OrderLemmas.{once_of}
use Rattle.laws_stands.specs.Linked.{same_machine}
use Rattle.laws_stands.specs.Stands.{Stands, row_of_slot}
use Rattle.laws_stands_on.proofs.KeyLemmas.{eq_then, inst_at, inst_keys, machine_keys}
use Rattle.laws_stands_on.proofs.TableLemmas.{nat_at, nat_keys}
use Rattle.laws_stands_works.proofs.SweptLemmas.{machine_own}
use Rattle.laws_views.proofs.ListedLemmas.{keys_are, pairs, pairs_are}
use Rattle.std.specs.BTreeMap.{is_at}

-- ---- numbers

among_numbers : (t n : ℕ) → is_among eqb t (numbers_to n) ≡ (nat_le 1 t && nat_le t n)
among_numbers t zero = grind (arith, nat_tests)
among_numbers t (suc n) =
    among_one_more eqb eqb_tells t (suc n) (numbers_to n)
    ∙ (λ i. among_numbers t n i || eqb t (suc n)) ∙ grind (arith, nat_tests)

up_after : (n : ℕ) (xs : List ℕ) → are_ascending nat_cmp xs ≡ true → list_all (λ k. nat_le k n) xs ≡ true
    → are_ascending nat_cmp (xs ++ suc n ∷ []) ≡ true
up_after n [] up low = refl
up_after n (x ∷ []) up low =
    let first : x ≤ n = leb-true x n (and_parts (nat_le x n) true low).0 in
    grind (arith, nat_tests, first)
up_after n (x ∷ y ∷ xs) up low =
    let (first, rest) = and_parts (is_before (nat_cmp x y)) (are_ascending nat_cmp (y ∷ xs)) up in
    and_from (is_before (nat_cmp x y)) (are_ascending nat_cmp (y ∷ xs ++ suc n ∷ [])) first
    (up_after n (y ∷ xs) rest (and_parts (nat_le x n) (list_all (λ k. nat_le k n) (y ∷ xs)) low).1)

low_numbers : (n m : ℕ) → n ≤ m → list_all (λ k. nat_le k m) (numbers_to n) ≡ true
low_numbers zero m low = refl
low_numbers (suc n) m low = more (numbers_to n) (low_numbers n m (omega arith))
  where
    more : (xs : List ℕ) → list_all (λ k. nat_le k m) xs ≡ true → list_all (λ k. nat_le k m) (xs ++ suc n ∷ []) ≡ true
    more [] all = grind (arith, nat_tests, low)
    more (x ∷ xs) all =
        let (first, rest) = and_parts (nat_le x m) (list_all (λ k. nat_le k m) xs) all in
        and_from (nat_le x m) (list_all (λ k. nat_le k m) (xs ++ suc n ∷ [])) first (more xs rest)

numbers_up : (n : ℕ) → are_ascending nat_cmp (numbers_to n) ≡ true
numbers_up zero = refl
numbers_up (suc n) = up_after n (numbers_to n) (numbers_up n) (low_numbers n n (omega arith))

-- ---- names of machines

abbrev pub machine_name : SlotName → MachineName
machine_name name = record { task = name.task; slot = name.slot }

machine_at : (a b : MachineName) → is_at (machine_cmp a) b ≡ same_machine a b
machine_at a b = eq_then (nat_cmp a.task b.task) (nat_cmp a.slot b.slot)
    ∙ (λ j. nat_at a.task b.task j && nat_at a.slot b.slot j)

machine_total : IsTotalOrder machine_cmp
machine_total = then_total (on_total (λ (it : MachineName). it.task) nat_cmp_total)
    (on_total (λ (it : MachineName). it.slot) nat_cmp_total)

names_up : (xs : List SlotName) → are_ascending slot_cmp xs ≡ true → are_ascending machine_cmp (map machine_name xs) ≡ true
names_up [] up = refl
names_up (x ∷ []) up = refl
names_up (x ∷ y ∷ xs) up =
    let (first, rest) = and_parts (is_before (slot_cmp x y)) (are_ascending slot_cmp (y ∷ xs)) up in
    and_from (is_before (slot_cmp x y)) (are_ascending machine_cmp (map machine_name (y ∷ xs))) first (names_up (y ∷ xs) rest)

pub among_names : (name : MachineName) (xs : List SlotName)
    → is_among same_machine name (map machine_name xs)
    ≡ list_any (λ (x : SlotName). eqb name.task x.task && eqb name.slot x.slot) xs
among_names name [] = refl
among_names name (x ∷ xs) = ap (λ b. (eqb name.task x.task && eqb name.slot x.slot) || b) (among_names name xs)

-- what is known of a compile machine
abbrev pub machine_row : Known → MachineName → Option CompileRow
machine_row k name = option_map (row_of_slot name.task name.slot) (k.slot name.task name.slot)

-- ---- the tables

module _ (m : Moment) (calls : ℕ → Option Begin) (snapped : ℕ) (records : Records) (facts : KnownFacts m)
    (stands : Stands (record { known = m.known; calls = calls; snapped = snapped }) records) where
  abbrev k : Known
  k = m.known

  -- what is recorded of a deployment
  pub deployment_known : (dep : List ℕ) → deployment_of records dep ≡ dep_row k dep
  deployment_known dep =
      ap (find (λ (row : DepRow). bytes_eq row.dep dep)) stands.deployments
      ∙ found_row k dep k.deployments
      ∙ by (is_among bytes_eq dep k.deployments) (k.goal dep) refl (facts.lists.deployment_listed dep)
    where
      by : (b : Bool) (goal : Option Goal) → k.goal dep ≡ goal → same_truth b (is_some (k.goal dep)) ≡ true
          → (if b then dep_row k dep else None) ≡ dep_row k dep
      by true goal is listed = refl
      by false None is listed = sym (ap (option_map (λ goal. record { dep = dep; goal = goal; shared = k.shared dep })) is)
      by false (Some goal) is listed = absurd (false≢true (sym (ap (λ o. same_truth false (is_some o)) is) ∙ listed))

  -- the current goal of one
  pub goal_known : (dep : List ℕ) → goal_of records dep ≡ k.goal dep
  goal_known dep = ap (option_map (λ (row : DepRow). row.goal)) (deployment_known dep) ∙ by (k.goal dep)
    where
      by : (goal : Option Goal) → option_map (λ (row : DepRow). row.goal)
          (option_map (λ goal. record { dep = dep; goal = goal; shared = k.shared dep }) goal) ≡ goal
      by (Some goal) = refl
      by None = refl

  -- the rows of instances
  pub rows_known : pairs (λ e. e.0) (λ e. e.1.row) records.instances.by_inst.entries
      ≡ pairs (λ i. i) (λ i. Some (k.row i)) k.instances
  rows_known =
      pairs_are inst_cmp inst_total inst_keys same_inst itself inst_at (λ (known : Instance). known.row)
      (λ i. Some (k.row i)) records.instances.by_inst.entries stands.ordered.instances (once_of stands.ordered).instances
      k.instances facts.lists.instances_in_order members told
    where
      members : (i : Inst) → is_some (option_and_then (λ (known : Instance). known.row)
          (found inst_cmp records.instances.by_inst.entries i)) ≡ is_among same_inst i k.instances
      members i = ap is_some (stands.rows i) ∙ by (is_among same_inst i k.instances)
        where
          by : (b : Bool) → is_some (if b then Some (k.row i) else None) ≡ b
          by true = refl
          by false = refl

      told : (i : Inst) (row : Row) → option_and_then (λ (known : Instance). known.row)
          (found inst_cmp records.instances.by_inst.entries i) ≡ Some row → Some (k.row i) ≡ Some row
      told i row there = by (is_among same_inst i k.instances) (sym (stands.rows i) ∙ there)
        where
          by : (b : Bool) → (if b then Some (k.row i) else None) ≡ Some row → Some (k.row i) ≡ Some row
          by true is = is
          by false is = absurd cc

  -- the rows of compile machines
  pub machines_known : pairs (λ e. e.0) (λ e. option_map (λ (machine : Machine). machine.row) e.1)
      records.machines.places.entries ≡ pairs (λ name. name) (machine_row k) (map machine_name k.machines)
  machines_known =
      pairs_are machine_cmp machine_total machine_keys same_machine machine_own machine_at
      (option_map (λ (machine : Machine). machine.row)) (machine_row k) records.machines.places.entries
      stands.ordered.machines (once_of stands.ordered).machines (map machine_name k.machines)
      (names_up k.machines facts.lists.machines_in_order) members (λ name row there. sym (said name) ∙ there)
    where
      said : (name : MachineName) → option_and_then (option_map (λ (machine : Machine). machine.row))
          (found machine_cmp records.machines.places.entries name) ≡ machine_row k name
      said name = of (found machine_cmp records.machines.places.entries name) ∙ stands.machines name
        where
          of : (o : Option (Option Machine)) → option_and_then (option_map (λ (machine : Machine). machine.row)) o
              ≡ option_map (λ (machine : Machine). machine.row) (option_and_then (λ place. place) o)
          of (Some o) = refl
          of None = refl

      members : (name : MachineName) → is_some (option_and_then (option_map (λ (machine : Machine). machine.row))
          (found machine_cmp records.machines.places.entries name))
          ≡ is_among same_machine name (map machine_name k.machines)
      members name = ap is_some (said name) ∙ of (k.slot name.task name.slot)
          ∙ sym (same (is_among same_slot (named name.task name.slot) k.machines) (is_some (k.slot name.task name.slot))
          (facts.lists.machine_listed name.task name.slot))
          ∙ sym (among_names name k.machines)
        where
          of : (o : Option Slot) → is_some (option_map (row_of_slot name.task name.slot) o) ≡ is_some o
          of (Some slot) = refl
          of None = refl

          same : (a b : Bool) → same_truth a b ≡ true → a ≡ b
          same true b is = sym is
          same false true is = absurd (false≢true is)
          same false false is = refl

  -- the tasks
  pub tasks_known : pairs (λ e. e.0) (λ e. e.1) records.tasks.places.entries
      ≡ pairs (λ t. t) (λ t. Some (task_row k t)) (numbers_to k.tasks)
  tasks_known =
      pairs_are nat_cmp nat_cmp_total nat_keys eqb (λ t. eq-eqb t t refl) nat_at (λ (row : Option TaskRow). row)
      (λ t. Some (task_row k t)) records.tasks.places.entries stands.ordered.tasks (once_of stands.ordered).tasks
      (numbers_to k.tasks) (numbers_up k.tasks) members told
    where
      members : (t : ℕ) → is_some (option_and_then (λ (row : Option TaskRow). row)
          (found nat_cmp records.tasks.places.entries t)) ≡ is_among eqb t (numbers_to k.tasks)
      members t = ap is_some (stands.tasks t) ∙ by (nat_le 1 t && nat_le t k.tasks) ∙ sym (among_numbers t k.tasks)
        where
          by : (b : Bool) → is_some (if b then Some (task_row k t) else None) ≡ b
          by true = refl
          by false = refl

      told : (t : ℕ) (row : TaskRow) → option_and_then (λ (row : Option TaskRow). row)
          (found nat_cmp records.tasks.places.entries t) ≡ Some row → Some (task_row k t) ≡ Some row
      told t row there = by (nat_le 1 t && nat_le t k.tasks) (sym (stands.tasks t) ∙ there)
        where
          by : (b : Bool) → (if b then Some (task_row k t) else None) ≡ Some row → Some (task_row k t) ≡ Some row
          by true is = is
          by false is = absurd cc

  -- the orphaned disks
  pub orphans_known : map (λ e. e.0) (filter (λ e. is_some e.1) records.orphans.places.entries) ≡ k.orphans
  orphans_known =
      keys_are nat_cmp nat_cmp_total nat_keys eqb (λ d. eq-eqb d d refl) nat_at (λ (loose : Option LooseDisk). loose)
      records.orphans.places.entries stands.ordered.orphans (once_of stands.ordered).orphans k.orphans
      facts.lists.orphans_in_order members
    where
      members : (d : ℕ) → is_some (option_and_then (λ (loose : Option LooseDisk). loose)
          (found nat_cmp records.orphans.places.entries d)) ≡ is_among eqb d k.orphans
      members d = sym (of (option_and_then (λ (loose : Option LooseDisk). loose)
          (found nat_cmp records.orphans.places.entries d))) ∙ ap is_some (stands.orphans d)
          ∙ sym (same (is_among eqb d k.orphans) (is_some (k.orphan d)) (k.orphan d) (facts.lists.orphan_listed d))
        where
          of : (o : Option LooseDisk) → is_some (option_map (λ (loose : LooseDisk). loose.orphan) o) ≡ is_some o
          of (Some it) = refl
          of None = refl

          same : (a b : Bool) (o : Option Orphan)
              → (same_truth a b && where_any (λ (it : Orphan). it.disk == d) o) ≡ true → a ≡ b
          same true b o is = sym (and_parts b (where_any (λ (it : Orphan). it.disk == d) o) is).0
          same false true o is = absurd (false≢true is)
          same false false o is = refl
