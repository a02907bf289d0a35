-- A snapshot tells all of what is known that outlasts a session.
use Rattle.std.proofs.Common.{◌≡◌, ◌∙◌, ℕ, zero, suc, Bool, true, false, ◌&&◌, ◌||◌, Option, Some, None, List, [], ◌∷◌, ◌++◌}
use Rattle.std.proofs.Common.{ap, refl, sym, arith, inl, inr, map, length}
use Rattle.std.specs.Prelude.{◌==◌, ◌⊎◌, eqb, find, if◌then◌else◌, is_some, nat_le}
use Rattle.std.specs.List.{filter_map, list_any}
use Rattle.std.specs.Option.{option_map}
use Rattle.std.specs.Str.{bytes_eq}
use Rattle.std.proofs.lemmas.Bool.{and_from, and_parts, eq-eqb, eqb-true, false≢true, leb-true}
use Rattle.std.proofs.lemmas.Slice.Eq.{bytes_eq-Decides}
use Rattle.bosh_base.specs.Cloud.{numbers_to}
use Rattle.bosh_base.specs.declared.goal.Goal.{Goal}
use Rattle.bosh_base.specs.declared.inst.Inst.{Inst}
use Rattle.bosh_base.specs.declared.key.Key.{Key}
use Rattle.bosh_base.specs.declared.row.Row.{Row}
use Rattle.bosh_base.specs.declared.snapshot.BuiltKey.{BuiltKey}
use Rattle.bosh_base.specs.declared.snapshot.CompileRow.{CompileRow}
use Rattle.bosh_base.specs.declared.snapshot.DepRow.{DepRow}
use Rattle.bosh_base.specs.declared.snapshot.Orphan.{Orphan}
use Rattle.bosh_base.specs.declared.task.TaskRow.{TaskRow}
use Rattle.bosh_compile.specs.Readiness.{same_key}
use Rattle.bosh_history.specs.Known.{Known, Slot, SlotName, Task}
use Rattle.bosh_history.specs.Moments.{Moment}
use Rattle.bosh_history.specs.Orders.{same_slot}
use Rattle.bosh_history.specs.Slots.{is_compiled}
use Rattle.bosh_history.specs.Snapshots as snapshots
use Rattle.bosh_history.specs.Snapshots.{compile_row, dep_row, known_by, or_bare, slot, snapshot_of, task, task_of, task_row}
use Rattle.bosh_history.specs.Words.{is_among}
use Rattle.bosh_rows.proofs.SameLemmas.{same_inst_decides}
use Rattle.bosh_rows.specs.Same.{same_inst}
use Rattle.bosh_rows.specs.Standing.{same_truth}
use Rattle.laws_facts.specs.CallFacts.{named}
use Rattle.laws_facts.specs.Lists.{ListFacts, is_built_for}
use Rattle.laws_facts.specs.Tasks.{is_open_task}
use Rattle.bosh_history.specs.Rolling.{is_within_limit}
use Rattle.laws_items.proofs.ItemFrames.{truth_from}
use Rattle.laws_items.proofs.ListLemmas.{among_is, is_among_in}
use Rattle.laws_items.proofs.ListedLemmas.{at_some, numbered_in}
use Rattle.laws_items.specs.Lists.{IsIn}
use Rattle.laws_row_facts.specs.Words.{implies}
use Rattle.laws_claims.proofs.ToldLemmas.{task_found}
use Rattle.laws_runs.proofs.RestLemmas.{Outlasts, keyless}

-- ---- lists

-- what is recorded of each of several subjects is found again, where the record tells whose it is
module _ {X R : Type 0} (record_of : X → Option R) (name_of : R → X)
    (named_so : (x : X) (r : R) → record_of x ≡ Some r → name_of r ≡ x) where
  pub names : (xs : List X) → ((x : X) → IsIn x xs → is_some (record_of x) ≡ true)
      → map name_of (filter_map record_of xs) ≡ xs
  names [] some = refl
  names (x ∷ xs) some = by (record_of x) refl (some x (inl refl)) (names xs (λ y there. some y (inr there)))
    where
      by : (r : Option R) → record_of x ≡ r → is_some r ≡ true → map name_of (filter_map record_of xs) ≡ xs
          → map name_of (filter_map record_of (x ∷ xs)) ≡ x ∷ xs
      by (Some r) is some more = grind (arith, is, named_so x r is, more)
      by None is some more = absurd (false≢true some)

  -- the first of a list of which a test of its name holds is that of the subject
  module _ (x : X) (test : R → Bool) (tests : (r : R) → test r ≡ true → name_of r ≡ x)
      (meets : (r : R) → record_of x ≡ Some r → test r ≡ true) where
    pub found_again : (xs : List X) → (IsIn x xs ⊎ (record_of x ≡ None)) → find test (filter_map record_of xs) ≡ record_of x
    found_again [] (inl there) = absurd there
    found_again [] (inr none) = sym none
    found_again (y ∷ xs) there = by (record_of y) refl (found_again xs)
      where
        -- another subject is passed over
        later : IsIn x (y ∷ xs) ⊎ (record_of x ≡ None) → (y ≡ x → record_of x ≡ None)
            → IsIn x xs ⊎ (record_of x ≡ None)
        later (inl (inl same)) other = inr (other same)
        later (inl (inr more)) other = inl more
        later (inr none) other = inr none

        by : (r : Option R) → record_of y ≡ r
            → (IsIn x xs ⊎ (record_of x ≡ None) → find test (filter_map record_of xs) ≡ record_of x)
            → find test (filter_map record_of (y ∷ xs)) ≡ record_of x
        by None is rest =
            let more : find test (filter_map record_of xs) ≡ record_of x =
            rest (later there (λ same. ap record_of (sym same) ∙ is)) in
            grind (arith, is, more)
        by (Some r) is rest = of (test r) refl
          where
            of : (b : Bool) → test r ≡ b → find test (filter_map record_of (y ∷ xs)) ≡ record_of x
            of true holds =
                let same : y ≡ x = sym (named_so y r is) ∙ tests r holds in
                let own : record_of x ≡ Some r = ap record_of (sym same) ∙ is in
                grind (arith, is, holds, own)
            of false fails =
                let more : find test (filter_map record_of xs) ≡ record_of x =
                rest (later there (λ same. absurd (false≢true (sym fails ∙ meets r (ap record_of (sym same) ∙ is))))) in
                grind (arith, is, fails, more)

some_found : {R : Type 0} (test : R → Bool) (rows : List R) → is_some (find test rows) ≡ list_any test rows
some_found test [] = refl
some_found test (row ∷ rows) = by (test row) (some_found test rows)
  where
    by : (b : Bool) → is_some (find test rows) ≡ list_any test rows
        → is_some (if b then Some row else find test rows) ≡ (b || list_any test rows)
    by true same = refl
    by false same = same

mapped_some : {A B : Type 0} (f : A → B) (o : Option A) → is_some (option_map f o) ≡ is_some o
mapped_some f (Some a) = refl
mapped_some f None = refl

lengths : {A B : Type 0} (f : A → B) (xs : List A) → length (map f xs) ≡ length xs
lengths f [] = refl
lengths f (x ∷ xs) = ap suc (lengths f xs)

one_longer : {A : Type 0} (xs : List A) (x : A) → length (xs ++ x ∷ []) ≡ suc (length xs)
one_longer [] x = refl
one_longer (y ∷ xs) x = ap suc (one_longer xs x)

counted : (n : ℕ) → length (numbers_to n) ≡ n
counted zero = refl
counted (suc n) = one_longer (numbers_to n) (suc n) ∙ ap suc (counted n)

slot_is : (a b : SlotName) → same_slot a b ≡ true → a ≡ b
slot_is a b same =
    let (task, slot) = and_parts (a.task == b.task) (a.slot == b.slot) same in
    λ i. record { task = eqb-true a.task b.task task i; slot = eqb-true a.slot b.slot slot i }

slot_itself : (a : SlotName) → same_slot a a ≡ true
slot_itself a = and_from (a.task == a.task) _ (eq-eqb a.task a.task refl) (eq-eqb a.slot a.slot refl)

-- ---- what is listed is recorded, and the other way round

recorded : (listed some : Bool) → same_truth listed some ≡ true → listed ≡ true → some ≡ true
recorded true some same is = same
recorded false some same is = absurd (false≢true is)

either : {X : Type 0} (o : Option X) (listed : Bool) → same_truth listed (is_some o) ≡ true
    → (listed ≡ true) ⊎ (o ≡ None)
either (Some x) listed same = inl (truth_from listed true same refl)
either None listed same = inr refl

truth_same : (a b : Bool) → same_truth a b ≡ true → a ≡ b
truth_same true true same = refl
truth_same true false same = absurd (false≢true same)
truth_same false true same = absurd (false≢true same)
truth_same false false same = refl

and_none : (a : Bool) → (a && false) ≡ false
and_none true = refl
and_none false = refl

inst_flip : (a b : Inst) → same_inst a b ≡ same_inst b a
inst_flip a b = by (same_inst a b) refl (same_inst b a) refl
  where
    by : (c : Bool) → same_inst a b ≡ c → (d : Bool) → same_inst b a ≡ d → c ≡ d
    by true one true other = refl
    by true one false other =
        absurd (false≢true (sym other ∙ (same_inst_decides b a).1 (sym ((same_inst_decides a b).0 one))))
    by false one true other =
        absurd (false≢true (sym one ∙ (same_inst_decides a b).1 (sym ((same_inst_decides b a).0 other))))
    by false one false other = refl

one_of : {X : Type 0} (a b : X) → Some a ≡ Some b → a ≡ b
one_of a b is = cc

-- ---- each kind of record

module _ (m : Moment) (h : ListFacts m) where
  abbrev k : Known
  k = m.known

  -- rows

  rows_named : (xs : List Inst) → map (λ (it : Row). it.inst) (map k.row xs) ≡ xs
  rows_named [] = refl
  rows_named (i ∷ xs) = λ j. h.own_row i j ∷ rows_named xs j

  row_found : (i : Inst) (xs : List Inst)
      → find (λ (it : Row). same_inst it.inst i) (map k.row xs)
      ≡ (if is_among same_inst i xs then Some (k.row i) else None)
  row_found i [] = refl
  row_found i (x ∷ xs) =
      (λ j. if same_inst (h.own_row x j) i then Some (k.row x)
      else find (λ (it : Row). same_inst it.inst i) (map k.row xs))
      ∙ (λ j. if inst_flip x i j then Some (k.row x) else row_found i xs j)
      ∙ by (same_inst i x) refl
    where
      by : (b : Bool) → same_inst i x ≡ b
          → (if b then Some (k.row x) else (if is_among same_inst i xs then Some (k.row i) else None))
          ≡ (if (b || is_among same_inst i xs) then Some (k.row i) else None)
      by true same = sym (λ j. Some (k.row ((same_inst_decides i x).0 same j)))
      by false other = refl

  row_again : (i : Inst) → or_bare i (find (λ (it : Row). same_inst it.inst i) (map k.row k.instances)) ≡ k.row i
  row_again i = (λ j. or_bare i (row_found i k.instances j)) ∙ by (is_among same_inst i k.instances) refl
    where
      by : (b : Bool) → is_among same_inst i k.instances ≡ b → or_bare i (if b then Some (k.row i) else None) ≡ k.row i
      by true there = refl
      by false none = sym (h.bare i none)

  -- compile machines

  abbrev name_of : CompileRow → SlotName
  name_of it = record { task = it.task; slot = it.slot }

  abbrev with_slot : Option Slot → Known
  with_slot slot = record k { slot = λ t s. slot }

  machine_named : (name : SlotName) (r : CompileRow) → compile_row k name ≡ Some r → name_of r ≡ name
  machine_named name r is = by (k.slot name.task name.slot) is
    where
      by : (slot : Option Slot) → compile_row (with_slot slot) name ≡ Some r → name_of r ≡ name
      by (Some it) is = sym (one_of name (name_of r) (ap (option_map name_of) is))
      by None is = absurd cc

  machine_some : (name : SlotName) → is_some (compile_row k name) ≡ is_some (k.slot name.task name.slot)
  machine_some name = by (k.slot name.task name.slot)
    where
      by : (slot : Option Slot) → is_some (compile_row (with_slot slot) name) ≡ is_some slot
      by (Some it) = refl
      by None = refl

  machines_again : map name_of (filter_map (compile_row k) k.machines) ≡ k.machines
  machines_again =
      names (compile_row k) name_of machine_named k.machines
      (λ name there. machine_some name
      ∙ recorded (is_among same_slot (named name.task name.slot) k.machines) (is_some (k.slot name.task name.slot))
      (h.machine_listed name.task name.slot)
      (is_among_in same_slot name k.machines (slot_itself name) there))

  slot_again : (t s : ℕ)
      → option_map keyless
      (option_map slot
      (find (λ (it : CompileRow). it.task == t && it.slot == s) (filter_map (compile_row k) k.machines)))
      ≡ option_map keyless (k.slot t s)
  slot_again t s =
      (λ j. option_map keyless (option_map slot (found j))) ∙ by (k.slot t s)
    where
      listed : (slot : Option Slot) → k.slot t s ≡ slot
          → IsIn (named t s) k.machines ⊎ (compile_row k (named t s) ≡ None)
      listed (Some it) is =
          inl (among_is same_slot slot_is (named t s) k.machines
          (truth_from (is_among same_slot (named t s) k.machines) (is_some (k.slot t s)) (h.machine_listed t s)
          (ap is_some is)))
      listed None is = inr (λ j. compile_row (with_slot (is j)) (named t s))

      found : find (λ (it : CompileRow). it.task == t && it.slot == s) (filter_map (compile_row k) k.machines)
          ≡ compile_row k (named t s)
      found =
          found_again (compile_row k) name_of machine_named (named t s) (λ it. it.task == t && it.slot == s)
          (λ r test. slot_is (name_of r) (named t s) test)
          (λ r is. (λ j. same_slot (machine_named (named t s) r is j) (named t s)) ∙ slot_itself (named t s))
          k.machines (listed (k.slot t s) refl)

      by : (it : Option Slot)
          → option_map keyless (option_map slot (compile_row (with_slot it) (named t s))) ≡ option_map keyless it
      by (Some it) = refl
      by None = refl

  -- orphaned disks

  orphan_named : (d : ℕ) (r : Orphan) → k.orphan d ≡ Some r → r.disk ≡ d
  orphan_named d r is =
      eqb-true r.disk d
      (at_some (λ (it : Orphan). it.disk == d) (k.orphan d) r
      (and_parts (same_truth (is_among eqb d k.orphans) (is_some (k.orphan d))) _ (h.orphan_listed d)).1 is)

  orphan_truth : (d : ℕ) → same_truth (is_among eqb d k.orphans) (is_some (k.orphan d)) ≡ true
  orphan_truth d =
      (and_parts (same_truth (is_among eqb d k.orphans) (is_some (k.orphan d))) _ (h.orphan_listed d)).0

  orphans_again : map (λ (it : Orphan). it.disk) (filter_map k.orphan k.orphans) ≡ k.orphans
  orphans_again =
      names k.orphan (λ (it : Orphan). it.disk) orphan_named k.orphans
      (λ d there. recorded (is_among eqb d k.orphans) (is_some (k.orphan d)) (orphan_truth d)
      (is_among_in eqb d k.orphans (eq-eqb d d refl) there))

  orphan_again : (d : ℕ) → find (λ (it : Orphan). it.disk == d) (filter_map k.orphan k.orphans) ≡ k.orphan d
  orphan_again d =
      found_again k.orphan (λ (it : Orphan). it.disk) orphan_named d (λ it. it.disk == d)
      (λ r test. eqb-true r.disk d test) (λ r is. eq-eqb r.disk d (orphan_named d r is)) k.orphans
      (by (either (k.orphan d) (is_among eqb d k.orphans) (orphan_truth d)))
    where
      by : (is_among eqb d k.orphans ≡ true) ⊎ (k.orphan d ≡ None) → IsIn d k.orphans ⊎ (k.orphan d ≡ None)
      by (inl there) = inl (among_is eqb (λ a b same. eqb-true a b same) d k.orphans there)
      by (inr none) = inr none

  -- deployments

  abbrev with_goal : Option Goal → Known
  with_goal goal = record k { goal = λ dep. goal }

  dep_named : (dep : List ℕ) (r : DepRow) → dep_row k dep ≡ Some r → r.dep ≡ dep
  dep_named dep r is = by (k.goal dep) is
    where
      by : (goal : Option Goal) → dep_row (with_goal goal) dep ≡ Some r → r.dep ≡ dep
      by (Some goal) is = sym (one_of dep r.dep (ap (option_map (λ (it : DepRow). it.dep)) is))
      by None is = absurd cc

  dep_some : (dep : List ℕ) → is_some (dep_row k dep) ≡ is_some (k.goal dep)
  dep_some dep = mapped_some _ (k.goal dep)

  bytes_are : (a b : List ℕ) → bytes_eq a b ≡ true → a ≡ b
  bytes_are a b same = (bytes_eq-Decides a b).0 same

  deployments_again : map (λ (it : DepRow). it.dep) (filter_map (dep_row k) k.deployments) ≡ k.deployments
  deployments_again =
      names (dep_row k) (λ (it : DepRow). it.dep) dep_named k.deployments
      (λ dep there. dep_some dep
      ∙ recorded (is_among bytes_eq dep k.deployments) (is_some (k.goal dep)) (h.deployment_listed dep)
      (is_among_in bytes_eq dep k.deployments ((bytes_eq-Decides dep dep).1 refl) there))

  dep_again : (dep : List ℕ)
      → find (λ (it : DepRow). bytes_eq it.dep dep) (filter_map (dep_row k) k.deployments) ≡ dep_row k dep
  dep_again dep =
      found_again (dep_row k) (λ (it : DepRow). it.dep) dep_named dep (λ it. bytes_eq it.dep dep)
      (λ r test. bytes_are r.dep dep test) (λ r is. (bytes_eq-Decides r.dep dep).1 (dep_named dep r is)) k.deployments
      (by (either (k.goal dep) (is_among bytes_eq dep k.deployments) (h.deployment_listed dep)))
    where
      by : (is_among bytes_eq dep k.deployments ≡ true) ⊎ (k.goal dep ≡ None)
          → IsIn dep k.deployments ⊎ (dep_row k dep ≡ None)
      by (inl there) = inl (among_is bytes_eq bytes_are dep k.deployments there)
      by (inr none) = inr (λ j. dep_row (with_goal (none j)) dep)

  goal_again : (dep : List ℕ) → snapshots.current_goal (snapshot_of k) dep ≡ k.goal dep
  goal_again dep = (λ j. option_map (λ (it : DepRow). it.goal) (dep_again dep j)) ∙ by (k.goal dep)
    where
      by : (goal : Option Goal) → option_map (λ (it : DepRow). it.goal) (dep_row (with_goal goal) dep) ≡ goal
      by (Some goal) = refl
      by None = refl

  shared_again : (dep : List ℕ) → is_some (k.goal dep) ≡ true
      → snapshots.offers (snapshots.deployment (snapshot_of k) dep) ≡ k.shared dep
  shared_again dep some = (λ j. snapshots.offers (dep_again dep j)) ∙ by (k.goal dep) some
    where
      by : (goal : Option Goal) → is_some goal ≡ true → snapshots.offers (dep_row (with_goal goal) dep) ≡ k.shared dep
      by (Some goal) some = refl
      by None some = absurd (false≢true some)

  -- compiled keys

  compiled_again : (key : Key) → is_compiled (known_by (snapshot_of k)) key ≡ is_compiled k key
  compiled_again key =
      mapped_some (λ (it : BuiltKey). it.digest) (find (λ (it : BuiltKey). same_key it.key key) k.built)
      ∙ some_found (λ (it : BuiltKey). same_key it.key key) k.built
      ∙ truth_same (list_any (is_built_for key) k.built) (is_compiled k key) (h.key_listed key)

  -- tasks

  row_of_task : (t : ℕ) (xs : List ℕ) → IsIn t xs
      → find (λ (it : TaskRow). it.task == t) (map (task_row k) xs) ≡ Some (task_row k t)
  row_of_task t [] there = absurd there
  row_of_task t (n ∷ xs) there = by (n == t) refl there (row_of_task t xs)
    where
      by : (b : Bool) → (n == t) ≡ b → IsIn t (n ∷ xs)
          → (IsIn t xs → find (λ (it : TaskRow). it.task == t) (map (task_row k) xs) ≡ Some (task_row k t))
          → (if n == t then Some (task_row k n) else find (λ (it : TaskRow). it.task == t) (map (task_row k) xs))
          ≡ Some (task_row k t)
      by true same there rest =
          (λ j. if same j then Some (task_row k n) else find (λ (it : TaskRow). it.task == t) (map (task_row k) xs))
          ∙ (λ j. Some (task_row k (eqb-true n t same j)))
      by false other (inl same) rest = absurd (false≢true (sym other ∙ eq-eqb n t same))
      by false other (inr more) rest =
          (λ j. if other j then Some (task_row k n) else find (λ (it : TaskRow). it.task == t) (map (task_row k) xs))
          ∙ rest more

  pub task_again : (t : ℕ) → nat_le 1 t ≡ true → nat_le t k.tasks ≡ true
      → task_of (snapshot_of k) t ≡ task (snapshot_of k) (task_row k t)
  task_again t first within =
      task_found (snapshot_of k) t (Some (task_row k t))
      (row_of_task t (numbers_to k.tasks)
      (numbered_in t k.tasks (leb-true 1 t first) (leb-true t k.tasks within)))

  unchanged : (t : ℕ) → (task_of (snapshot_of k) t).changed ≡ []
  unchanged t = by (find (λ (it : TaskRow). it.task == t) (snapshot_of k).tasks) refl
    where
      by : (found : Option TaskRow) → find (λ (it : TaskRow). it.task == t) (snapshot_of k).tasks ≡ found
          → (task_of (snapshot_of k) t).changed ≡ []
      by (Some it) is = ap (λ (task : Task). task.changed) (task_found (snapshot_of k) t (Some it) is)
      by None is = ap (λ (task : Task). task.changed) (task_found (snapshot_of k) t None is)

  abbrev new : Known
  new = known_by (snapshot_of k)

  -- all of it
  pub snapshot_outlasts : Outlasts k new
  snapshot_outlasts = record {
    instances = rows_named k.instances;
    row = row_again;
    machines = machines_again;
    slot = slot_again;
    orphans = orphans_again;
    orphan = orphan_again;
    deployments = deployments_again;
    goal = goal_again;
    shared = shared_again;
    built = refl;
    compiled = compiled_again;
    tasks = lengths (task_row k) (numbers_to k.tasks) ∙ counted k.tasks;
    dep = λ t first within. ap (λ (it : Task). it.dep) (task_again t first within);
    end = λ t first within. ap (λ (it : Task). it.end) (task_again t first within);
    within_limits =
        λ t i was. (λ j. implies (is_open_task new t && is_among same_inst i (unchanged t j))
        (is_within_limit (new.task t) i))
        ∙ (λ j. implies (and_none (is_open_task new t) j) (is_within_limit (new.task t) i));
    last_call = refl;
  }
