-- A snapshot of what is known can be read.
use Rattle.std.proofs.Common.{◌≡◌, ◌∙◌, ◌≤◌, ℕ, ◌+◌, zero, suc, Bool, true, false, ◌&&◌, ◌||◌, ◌==◌, List, [], ◌∷◌, ◌++◌}
use Rattle.std.proofs.Common.{map, Option, Some, None, ap, arith, refl, subst, sym}
use Rattle.std.specs.Prelude.{eqb, is_some, length, nat_le, not}
use Rattle.std.specs.List.{cons_option, filter_map, list_all, list_any}
use Rattle.std.specs.Option.{option_map}
use Rattle.std.specs.Str.{bytes_eq}
use Rattle.std.proofs.lemmas.Bool.{and_from, and_parts, eq-eqb, eqb-true, le-leb, not-true, true≢false}
use Rattle.std.proofs.lemmas.List.{length-append, length-map, map-append}
use Rattle.bosh_base.specs.Cloud.{numbers_to}
use Rattle.bosh_base.specs.declared.goal.Goal.{Goal}
use Rattle.bosh_base.specs.declared.goal.GoalRow.{GoalRow}
use Rattle.bosh_base.specs.declared.row.Row.{Row}
use Rattle.bosh_base.specs.declared.snapshot.CompileRow.{CompileRow}
use Rattle.bosh_base.specs.declared.snapshot.DepRow.{DepRow}
use Rattle.bosh_base.specs.declared.snapshot.Orphan.{Orphan}
use Rattle.bosh_base.specs.declared.task.TaskRow.{TaskRow}
use Rattle.bosh_fold.specs.Calls.{machine_name}
use Rattle.bosh_history.specs.Goals.{inst_of}
use Rattle.bosh_history.specs.Known.{Known, Slot}
use Rattle.bosh_history.specs.Moments.{Moment}
use Rattle.bosh_history.specs.Snapshots.{compile_row, dep_row, snapshot_of, task_row}
use Rattle.bosh_history.specs.Sound.{has_plan}
use Rattle.bosh_history.specs.Words.{is_among}
use Rattle.bosh_rows.specs.Same.{same_inst}
use Rattle.bosh_rows.specs.SoundSnapshot.{are_distinct, are_numbered, same_deployment}
use Rattle.bosh_rows.specs.Standing.{same_truth}
use Rattle.bosh_work.specs.declared.part.MachineName.{MachineName}
use Rattle.laws_facts.proofs.InstanceLemmas.{instances_apart}
use Rattle.laws_facts.specs.Goals.{GoalFacts}
use Rattle.laws_facts.specs.KnownFacts.{KnownFacts}
use Rattle.laws_row_facts.specs.Words.{where_any}
use Rattle.laws_stands.specs.Agrees.{Agrees}
use Rattle.laws_stands.specs.Linked.{same_machine}
use Rattle.laws_stands.specs.Stands.{row_of_slot}
use Rattle.laws_stands.specs.Told.{TellsWell, Told}
use Rattle.laws_stands_fits.specs.Own.{TellsOwn}
use Rattle.laws_stands_snapshots.proofs.TableListLemmas.{ascending_apart, filter_all, filter_mapped}
use Rattle.laws_stands_snapshots.proofs.OrderLemmas as orders
use Rattle.laws_stands_snapshots.proofs.OrderLemmas.{machine_order, number_order, order_named}
use Rattle.laws_stands_snapshots.specs.Built.{AreBuiltInOrder}
use Rattle.laws_stands_snapshots.specs.Readable.{IsReadable, has_own_rows, is_counted, same_disk, same_row, same_slot}

-- ---- lists of what is recorded of several subjects

module _ {X R : Type 0} (same : X → X → Bool) (record_of : X → Option R) (name_of : R → X)
    (named_so : (x : X) (r : R) → record_of x ≡ Some r → name_of r ≡ x) where
  -- what is not listed is not recorded there
  not_recorded : (r : R) (x : X) (xs : List X) → name_of r ≡ x → list_any (same x) xs ≡ false
      → list_any (λ (q : R). same (name_of r) (name_of q)) (filter_map record_of xs) ≡ false
  not_recorded r x [] is none = refl
  not_recorded r x (y ∷ xs) is none = by (same x y) refl none (record_of y) refl (not_recorded r x xs is)
    where
      by : (b : Bool) → same x y ≡ b → (b || list_any (same x) xs) ≡ false → (o : Option R) → record_of y ≡ o
          → (list_any (same x) xs ≡ false
          → list_any (λ (q : R). same (name_of r) (name_of q)) (filter_map record_of xs) ≡ false)
          → list_any (λ (q : R). same (name_of r) (name_of q)) (cons_option (record_of y) (filter_map record_of xs)) ≡ false
      by true one none o has more = absurd (true≢false none)
      by false other none (Some q) has more =
          (λ j. list_any (λ (q : R). same (name_of r) (name_of q)) (cons_option (has j) (filter_map record_of xs)))
          ∙ (λ j. same (is j) (named_so y q has j)
          || list_any (λ (q : R). same (name_of r) (name_of q)) (filter_map record_of xs))
          ∙ (λ j. other j || list_any (λ (q : R). same (name_of r) (name_of q)) (filter_map record_of xs))
          ∙ more none
      by false other none None has more =
          (λ j. list_any (λ (q : R). same (name_of r) (name_of q)) (cons_option (has j) (filter_map record_of xs)))
          ∙ more none

  -- where no subject stands twice, no record does
  recorded_apart : (xs : List X) → are_distinct same xs ≡ true
      → are_distinct (λ (a b : R). same (name_of a) (name_of b)) (filter_map record_of xs) ≡ true
  recorded_apart [] apart = refl
  recorded_apart (x ∷ xs) apart =
      let (alone, rest) = and_parts (not (list_any (same x) xs)) (are_distinct same xs) apart in
      by (record_of x) refl (not-true (list_any (same x) xs) alone) (recorded_apart xs rest)
    where
      test : R → R → Bool
      test a b = same (name_of a) (name_of b)

      by : (o : Option R) → record_of x ≡ o → list_any (same x) xs ≡ false
          → are_distinct test (filter_map record_of xs) ≡ true
          → are_distinct test (cons_option (record_of x) (filter_map record_of xs)) ≡ true
      by (Some r) is none more =
          (λ j. are_distinct test (cons_option (is j) (filter_map record_of xs)))
          ∙ and_from (not (list_any (test r) (filter_map record_of xs))) (are_distinct test (filter_map record_of xs))
          (ap not (not_recorded r x xs (named_so x r is) none)) more
      by None is none more = (λ j. are_distinct test (cons_option (is j) (filter_map record_of xs))) ∙ more

-- what holds of each record holds of all
pub all_recorded : {X R : Type 0} (p : R → Bool) (record_of : X → Option R)
    → ((x : X) (r : R) → record_of x ≡ Some r → p r ≡ true) → (xs : List X) → list_all p (filter_map record_of xs) ≡ true
all_recorded p record_of each [] = refl
all_recorded {X} {R} p record_of each (x ∷ xs) = by (record_of x) refl (all_recorded p record_of each xs)
  where
    by : (o : Option R) → record_of x ≡ o → list_all p (filter_map record_of xs) ≡ true
        → list_all p (cons_option (record_of x) (filter_map record_of xs)) ≡ true
    by (Some r) is more =
        (λ j. list_all p (cons_option (is j) (filter_map record_of xs)))
        ∙ and_from (p r) (list_all p (filter_map record_of xs)) (each x r is) more
    by None is more = (λ j. list_all p (cons_option (is j) (filter_map record_of xs))) ∙ more

pub all_mapped : {X R : Type 0} (p : R → Bool) (f : X → R) → ((x : X) → p (f x) ≡ true) → (xs : List X)
    → list_all p (map f xs) ≡ true
all_mapped p f each [] = refl
all_mapped p f each (x ∷ xs) = and_from (p (f x)) (list_all p (map f xs)) (each x) (all_mapped p f each xs)

-- no more is recorded than is listed
no_longer : {X R : Type 0} (record_of : X → Option R) (xs : List X) → length (filter_map record_of xs) ≤ length xs
no_longer record_of [] = let e : zero ≤ zero = omega arith in e
no_longer {X} {R} record_of (x ∷ xs) = by (record_of x) (no_longer record_of xs)
  where
    by : (o : Option R) → length (filter_map record_of xs) ≤ length xs
        → length (cons_option o (filter_map record_of xs)) ≤ suc (length xs)
    by (Some r) low = let e : suc (length (filter_map record_of xs)) ≤ suc (length xs) = omega arith in e
    by None low = let e : length (filter_map record_of xs) ≤ suc (length xs) = omega arith in e

-- ---- numbers

one_more : (last : ℕ) (rows : List TaskRow) (row : TaskRow) → are_numbered last rows ≡ true
    → row.task ≡ last + length rows + 1 → are_numbered last (rows ++ row ∷ []) ≡ true
one_more last [] row numbered is =
    and_from (row.task == last + 1) true (eq-eqb row.task (last + 1) (let e : row.task ≡ last + 1 = here is in e)) refl
  where
    here : row.task ≡ last + 0 + 1 → row.task ≡ last + 1
    here is = omega arith
one_more last (first ∷ rows) row numbered is =
    let (here, rest) = and_parts (first.task == last + 1) (are_numbered first.task rows) numbered in
    and_from (first.task == last + 1) (are_numbered first.task (rows ++ row ∷ [])) here
    (one_more first.task rows row rest (next (eqb-true first.task (last + 1) here)))
  where
    next : first.task ≡ last + 1 → row.task ≡ first.task + length rows + 1
    next at = let e : row.task ≡ last + suc (length rows) + 1 = is in omega arith

how_many : (n : ℕ) → length (numbers_to n) ≡ n
how_many zero = refl
how_many (suc n) =
    let more : length (numbers_to n) ≡ n = how_many n in
    length-append (numbers_to n) (suc n ∷ []) ∙ next more
  where
    next : length (numbers_to n) ≡ n → length (numbers_to n) + 1 ≡ suc n
    next more = omega arith

module _ (k : Known) where
  -- tasks are numbered one after another
  pub tasks_numbered : (n : ℕ) → are_numbered 0 (map (task_row k) (numbers_to n)) ≡ true
  tasks_numbered zero = refl
  tasks_numbered (suc n) =
      ap (are_numbered 0) (map-append (task_row k) (numbers_to n) (suc n ∷ []))
      ∙ one_more 0 (map (task_row k) (numbers_to n)) (task_row k (suc n)) (tasks_numbered n)
      (next (length (map (task_row k) (numbers_to n)))
      (length-map (numbers_to n) (task_row k) ∙ how_many n))
    where
      next : (l : ℕ) → l ≡ n → suc n ≡ 0 + l + 1
      next l is = omega arith

-- ---- what is known

module _ (m : Moment) (h : KnownFacts m) where
  abbrev k : Known
  k = m.known

  abbrev with_goal : Option Goal → Known
  with_goal goal = record k { goal = λ dep. goal }

  dep_named : (dep : List ℕ) (r : DepRow) → dep_row k dep ≡ Some r → r.dep ≡ dep
  dep_named dep r is = by (k.goal dep) is
    where
      by : (goal : Option Goal) → dep_row (with_goal goal) dep ≡ Some r → r.dep ≡ dep
      by (Some goal) is = let e : record { dep = dep; goal = goal; shared = k.shared dep } ≡ r = cc in
          sym (ap (λ (it : DepRow). it.dep) e)
      by None is = absurd cc

  -- no deployment is listed twice
  pub deployments_apart : are_distinct same_deployment (snapshot_of k).deployments ≡ true
  deployments_apart =
      recorded_apart bytes_eq (dep_row k) (λ (it : DepRow). it.dep) dep_named k.deployments h.lists.deployments_apart

  -- a goal wants instances of its own deployment, each once
  goal_own : (dep : List ℕ) (goal : Goal) → k.goal dep ≡ Some goal
      → has_own_rows (record { dep = dep; goal = goal; shared = k.shared dep }) ≡ true
  goal_own dep goal is =
      let facts : GoalFacts k dep goal = h.goals dep goal is in
      let (apart, of_dep) = and_parts (are_distinct same_inst (map inst_of goal.rows))
      (list_all (λ want. bytes_eq want.inst.dep goal.dep && has_plan goal want) goal.rows) facts.sound_rows in
      and_from (list_all (λ (want : GoalRow). bytes_eq want.inst.dep dep) goal.rows)
      (are_distinct same_inst (map (λ (want : GoalRow). want.inst) goal.rows))
      (each goal.rows of_dep facts.of_dep) apart
    where
      each : (rows : List GoalRow)
          → list_all (λ want. bytes_eq want.inst.dep goal.dep && has_plan goal want) rows ≡ true → goal.dep ≡ dep
          → list_all (λ (want : GoalRow). bytes_eq want.inst.dep dep) rows ≡ true
      each [] all same = refl
      each (want ∷ rows) all same =
          let (first, rest) = and_parts (bytes_eq want.inst.dep goal.dep && has_plan goal want)
          (list_all (λ want. bytes_eq want.inst.dep goal.dep && has_plan goal want) rows) all in
          and_from (bytes_eq want.inst.dep dep) (list_all (λ (want : GoalRow). bytes_eq want.inst.dep dep) rows)
          (ap (bytes_eq want.inst.dep) (sym same)
          ∙ (and_parts (bytes_eq want.inst.dep goal.dep) (has_plan goal want) first).0)
          (each rows rest same)

  own_rows : list_all has_own_rows (snapshot_of k).deployments ≡ true
  own_rows = all_recorded has_own_rows (dep_row k) each k.deployments
    where
      each : (dep : List ℕ) (r : DepRow) → dep_row k dep ≡ Some r → has_own_rows r ≡ true
      each dep r is = by (k.goal dep) refl is
        where
          by : (goal : Option Goal) → k.goal dep ≡ goal → dep_row (with_goal goal) dep ≡ Some r → has_own_rows r ≡ true
          by (Some goal) has is = let e : record { dep = dep; goal = goal; shared = k.shared dep } ≡ r = cc in
              ap has_own_rows (sym e) ∙ goal_own dep goal has
          by None has is = absurd cc

  rows_apart : are_distinct same_row (snapshot_of k).rows ≡ true
  rows_apart =
      ap (are_distinct same_row) (sym (filter_all k.row k.instances))
      ∙ recorded_apart same_inst (λ i. Some (k.row i)) (λ (it : Row). it.inst)
      (λ i r is. let e : k.row i ≡ r = cc in ap (λ (it : Row). it.inst) (sym e) ∙ h.lists.own_row i)
      k.instances (instances_apart k.instances h.lists.instances_in_order)

  abbrev machine_row : MachineName → Option CompileRow
  machine_row name = option_map (row_of_slot name.task name.slot) (k.slot name.task name.slot)

  machine_named : (name : MachineName) (r : CompileRow) → machine_row name ≡ Some r → machine_name r.task r.slot ≡ name
  machine_named name r is = by (k.slot name.task name.slot) is
    where
      by : (slot : Option Slot) → option_map (row_of_slot name.task name.slot) slot ≡ Some r
          → machine_name r.task r.slot ≡ name
      by (Some it) is = let e : row_of_slot name.task name.slot it ≡ r = cc in
          ap (λ (row : CompileRow). machine_name row.task row.slot) (sym e)
      by None is = absurd cc

  machines_apart : are_distinct same_slot (snapshot_of k).compile_rows ≡ true
  machines_apart =
      ap (are_distinct same_slot) (sym (filter_mapped machine_row orders.machine_name k.machines))
      ∙ recorded_apart same_machine machine_row (λ (it : CompileRow). machine_name it.task it.slot) machine_named
      (map orders.machine_name k.machines)
      (ascending_apart machine_order (map orders.machine_name k.machines)
      (order_named k.machines ∙ h.lists.machines_in_order))

  orphan_named : (d : ℕ) (r : Orphan) → k.orphan d ≡ Some r → r.disk ≡ d
  orphan_named d r is =
      eqb-true r.disk d
      ((λ j. where_any (λ (it : Orphan). it.disk == d) (sym is j))
      ∙ (and_parts (same_truth (is_among eqb d k.orphans) (is_some (k.orphan d)))
      (where_any (λ (it : Orphan). it.disk == d) (k.orphan d)) (h.lists.orphan_listed d)).1)

  orphans_apart : are_distinct same_disk (snapshot_of k).orphans ≡ true
  orphans_apart =
      recorded_apart eqb k.orphan (λ (it : Orphan). it.disk) orphan_named k.orphans
      (ascending_apart number_order k.orphans h.lists.orphans_in_order)

  -- a snapshot of it can be read
  pub can_be_read : (told : Told) → Agrees m told → TellsWell told → TellsOwn told → AreBuiltInOrder k.built
      → IsReadable (snapshot_of k)
  can_be_read told agrees well own built = record {
    deployments_apart = deployments_apart;
    rows_apart = rows_apart;
    machines_apart = machines_apart;
    orphans_apart = orphans_apart;
    keys_apart = built.apart;
    own_rows = own_rows;
    numbered = tasks_numbered k k.tasks;
    counted = all_mapped (is_counted k.last_call) (task_row k) (λ t. at_most t (k.task t).calls refl) (numbers_to k.tasks);
    few = few (no_longer (compile_row k) k.machines) (subst (λ (it : Known). length it.machines ≤ it.last_call) same own.few);
  }
    where
      same : told.known ≡ k
      same = agrees.known_is

      at_most : (t : ℕ) (calls : Option ℕ) → (k.task t).calls ≡ calls → where_any (λ c. nat_le c k.last_call) calls ≡ true
      at_most t (Some c) is =
          le-leb c k.last_call
          (subst (λ (it : Known). (it.task t).calls ≡ Some c → c ≤ it.last_call) same (well.counted t c) is)
      at_most t None is = refl

      few : {a b : ℕ} → a ≤ b → b ≤ k.last_call → a ≤ k.last_call
      few low more = omega arith
