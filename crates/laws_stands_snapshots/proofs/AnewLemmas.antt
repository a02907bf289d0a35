-- What is recorded once a snapshot was read, table by table.
use Rattle.std.proofs.Common.{◌≡◌, ◌∙◌, ◌≤◌, ℕ, ◌+◌, Bool, true, false, ◌&&◌, ◌||◌, List, [], ◌∷◌, map}
use Rattle.std.proofs.Common.{Option, Some, None, ap, arith, refl, subst, sym}
use Rattle.std.specs.Prelude.{eqb, find, fold, is_some, length, nat_le, nat_lt, not, unwrap_or, if◌then◌else◌}
use Rattle.std.specs.List.{AllByRecursion, cons_option, enumerate_from, filter_map, list_any}
use Rattle.std.specs.Option.{option_and_then, option_map, option_map_or, option_or}
use Rattle.std.specs.Ordering.{nat_cmp}
use Rattle.std.specs.Str.{bytes_eq}
use Rattle.std.proofs.lemmas.Bool.{and_parts, not-true, true≢false}
use Rattle.std.proofs.lemmas.Bool.Decides.{nat_tests}
use Rattle.bosh_base.specs.Inst.{inst_cmp}
use Rattle.bosh_base.specs.declared.inst.Inst.{Inst}
use Rattle.bosh_base.specs.declared.key.Key.{Key}
use Rattle.bosh_base.specs.declared.row.Row.{Row}
use Rattle.bosh_base.specs.declared.snapshot.BuiltKey.{BuiltKey}
use Rattle.bosh_base.specs.declared.snapshot.CompileRow.{CompileRow}
use Rattle.bosh_base.specs.declared.snapshot.DepRow.{DepRow}
use Rattle.bosh_base.specs.declared.snapshot.Orphan.{Orphan}
use Rattle.bosh_base.specs.declared.snapshot.Snapshot.{Snapshot}
use Rattle.bosh_base.specs.declared.task.TaskRow.{TaskRow}
use Rattle.bosh_compile.specs.Readiness.{same_key}
use Rattle.bosh_fold.specs.Anew as anews
use Rattle.bosh_fold.specs.Anew.{anew, deployment_read, key_read, machine_read, orphan_read, row_read, wants_read, with_last_call}
use Rattle.bosh_fold.specs.Calls.{machine_name}
use Rattle.bosh_fold.specs.Updates.{loose}
use Rattle.bosh_history.specs.Snapshots as snapshots
use Rattle.bosh_history.specs.Snapshots.{known_by}
use Rattle.bosh_history.specs.Words.{is_among}
use Rattle.bosh_records.specs.Instances.{unknown}
use Rattle.bosh_records.specs.Keys.{asked, key_cmp}
use Rattle.bosh_records.specs.Readers.{machine_cmp}
use Rattle.bosh_records.specs.Recorded.{Recorded}
use Rattle.bosh_records.specs.Table.{found, things}
use Rattle.bosh_records.specs.declared.instances.Instance.{Instance}
use Rattle.bosh_records.specs.declared.keys.KeyState.{KeyState}
use Rattle.bosh_rows.specs.SoundSnapshot.{are_distinct, same_deployment}
use Rattle.bosh_rows.specs.Same.{same_inst}
use Rattle.bosh_work.specs.Part.{no_part}
use Rattle.bosh_work.specs.declared.part.MachineName.{MachineName}
use Rattle.laws_stands.proofs.MemberLemmas.{bytes_same}
use Rattle.laws_stands.specs.Linked.{same_machine}
use Rattle.laws_stands.specs.Reading as reading
use Rattle.laws_stands_snapshots.proofs.FoldLemmas.{flipped, read_all, things_read}
use Rattle.laws_stands_snapshots.proofs.TableListLemmas.{filter_mapped}
use Rattle.laws_stands_snapshots.proofs.NumberedLemmas as numbers
use Rattle.laws_stands_snapshots.proofs.NumberedLemmas.{numbered_apart, numbered_found, one_more, opened_are, task_placed}
use Rattle.laws_stands_snapshots.proofs.OrderLemmas.{inst_order, key_order, machine_order, number_order}
use Rattle.laws_stands_snapshots.proofs.PlacesLemmas as places
use Rattle.laws_stands_snapshots.proofs.PlacesLemmas.{things_placed}
use Rattle.laws_stands_snapshots.proofs.WantLemmas.{IsOnlyWanted, wanted_by, wants_are}
use Rattle.laws_stands_snapshots.specs.Readable.{IsReadable}

-- ---- what it comes to

abbrev pub all_read : Snapshot → Recorded
all_read s = record {
  came = record {
    releases = s.releases;
    stemcells = s.stemcells;
    config = s.config;
    opened = fold one_more 0 s.tasks;
    last_call = s.last_call;
  };
  deployments = fold deployment_read [] (enumerate_from 0 s.deployments);
  instances = fold row_read (fold wants_read [] s.deployments) s.rows;
  machines = fold machine_read [] s.compile_rows;
  orphans = fold orphan_read [] s.orphans;
  keys = fold key_read [] s.built_keys;
  tasks = fold task_placed [] s.tasks;
  works = [];
  calls = [];
}

pub anew_is : (s : Snapshot) → anew s ≡ all_read s
anew_is s =
    ap (with_last_call s.last_call)
    (numbers.read_are s.tasks (record (all_read s) {
      came = record (all_read s).came { opened = 0; last_call = 0 };
      tasks = [];
    }))

-- ---- what is found meets the test

pub found_meets : {A : Type 0} (test : A → Bool) (xs : List A) (a : A) → find test xs ≡ Some a → test a ≡ true
found_meets test [] a is = absurd cc
found_meets {A} test (x ∷ xs) a is = by (test x) refl is (found_meets test xs a)
  where
    by : (b : Bool) → test x ≡ b → (if b then Some x else find test xs) ≡ Some a → (find test xs ≡ Some a → test a ≡ true)
        → test a ≡ true
    by true holds is more = let e : x ≡ a = cc in ap test (sym e) ∙ holds
    by false fails is more = more is

-- .. and each is found where none stands twice
each_found : (rows : List DepRow) (more : List DepRow) → AllByRecursion (λ (row : DepRow).
    find (λ (it : DepRow). bytes_eq it.dep row.dep) more ≡ Some row) rows
    → (first : DepRow) → list_any (same_deployment first) rows ≡ false
    → AllByRecursion (λ (row : DepRow). find (λ (it : DepRow). bytes_eq it.dep row.dep) (first ∷ more) ≡ Some row) rows
each_found [] more all first none = tt
each_found (row ∷ rows) more (here, all) first none = by (same_deployment first row) refl none (each_found rows more all first)
  where
    by : (b : Bool) → same_deployment first row ≡ b → (b || list_any (same_deployment first) rows) ≡ false
        → (list_any (same_deployment first) rows ≡ false
        → AllByRecursion (λ (row : DepRow). find (λ (it : DepRow). bytes_eq it.dep row.dep) (first ∷ more) ≡ Some row) rows)
        → AllByRecursion (λ (row : DepRow). find (λ (it : DepRow). bytes_eq it.dep row.dep) (first ∷ more) ≡ Some row)
        (row ∷ rows)
    by true one none rest = absurd (true≢false none)
    by false other none rest =
        ((λ i. if other i then Some first else find (λ (it : DepRow). bytes_eq it.dep row.dep) more) ∙ here, rest none)

rows_found : (rows : List DepRow) → are_distinct same_deployment rows ≡ true
    → AllByRecursion (λ (row : DepRow). find (λ (it : DepRow). bytes_eq it.dep row.dep) rows ≡ Some row) rows
rows_found [] apart = tt
rows_found (row ∷ rows) apart =
    let (alone, rest) = and_parts (not (list_any (same_deployment row) rows)) (are_distinct same_deployment rows) apart in (
      (λ i. if bytes_same row.dep i then Some row else find (λ (it : DepRow). bytes_eq it.dep row.dep) rows),
      each_found rows rows (rows_found rows rest) row (not-true (list_any (same_deployment row) rows) alone),
    )

filter_own : {A : Type 0} (f : A → Option A) (xs : List A) → AllByRecursion (λ (x : A). f x ≡ Some x) xs → filter_map f xs ≡ xs
filter_own f [] all = refl
filter_own f (x ∷ xs) (here, more) =
    (λ i. cons_option (here i) (filter_map f xs)) ∙ ap (λ rest. x ∷ rest) (filter_own f xs more)

-- what is read of an instance
record ReadsOf (known : Option Instance) (row : Option Row) (place : Option ℕ) : Type 0 where
  row_is : option_and_then (λ it. it.row) known ≡ row
  call_is : option_and_then (λ it. it.call) known ≡ None
  part_is : option_map_or (λ it. it.part) known no_part ≡ no_part
  want_is : option_and_then (λ it. it.want) known ≡ place

module _ (s : Snapshot) (r : IsReadable s) where
  abbrev pub now : Recorded
  now = all_read s

  -- ---- deployments

  pub things_are : things now.deployments ≡ s.deployments
  things_are = ap things (places.read_are s.deployments) ∙ things_placed 0 s.deployments

  pub deployments_are : things now.deployments ≡ filter_map (snapshots.dep_row (known_by s)) (map (λ row. row.dep) s.deployments)
  deployments_are =
      things_are
      ∙ sym (filter_mapped (snapshots.dep_row (known_by s)) (λ (row : DepRow). row.dep) s.deployments
      ∙ filter_own (λ (row : DepRow). snapshots.dep_row (known_by s) row.dep) s.deployments
      (each s.deployments (rows_found s.deployments r.deployments_apart)))
    where
      again : (dep : List ℕ) → Option DepRow → Option DepRow
      again dep row = option_map (λ goal. record { dep = dep; goal = goal; shared = snapshots.offers row })
          (option_map (λ (it : DepRow). it.goal) row)

      each : (rows : List DepRow)
          → AllByRecursion (λ (row : DepRow). find (λ (it : DepRow). bytes_eq it.dep row.dep) s.deployments ≡ Some row) rows
          → AllByRecursion (λ (row : DepRow). snapshots.dep_row (known_by s) row.dep ≡ Some row) rows
      each [] all = tt
      each (row ∷ rows) (here, more) = (ap (again row.dep) here, each rows more)

  -- ---- instances

  -- what is said of an instance by the deployments
  only : (i : Inst) → IsOnlyWanted (found inst_cmp (fold wants_read [] s.deployments) i)
      (option_or (wanted_by (find (λ (it : DepRow). bytes_eq it.dep i.dep) s.deployments) i) None)
  only i = wants_are s.deployments r.own_rows r.deployments_apart [] i None
      (record { row = refl; call = refl; part = refl; want = refl })

  -- .. and by its row, where it has one
  abbrev with_row : Option Instance → Option Row → Option Instance
  with_row known row = option_map_or (λ it. Some (record (unwrap_or known unknown) { row = Some it })) row known

  instance_is : (i : Inst) → reading.instance_of now i
      ≡ with_row (found inst_cmp (fold wants_read [] s.deployments) i) (find (λ (it : Row). same_inst it.inst i) s.rows)
  instance_is i =
      read_all inst_cmp same_inst inst_order (λ (it : Row). it.inst) (λ it known. record known { row = Some it })
      (λ it. unknown) s.rows r.rows_apart (fold wants_read [] s.deployments) i

  reads : (i : Inst) → ReadsOf (reading.instance_of now i) (find (λ (it : Row). same_inst it.inst i) s.rows)
      (option_or (wanted_by (find (λ (it : DepRow). bytes_eq it.dep i.dep) s.deployments) i) None)
  reads i =
      subst (λ known. ReadsOf known (find (λ (it : Row). same_inst it.inst i) s.rows)
      (option_or (wanted_by (find (λ (it : DepRow). bytes_eq it.dep i.dep) s.deployments) i) None))
      (sym (instance_is i))
      (by (found inst_cmp (fold wants_read [] s.deployments) i) (find (λ (it : Row). same_inst it.inst i) s.rows)
      (option_or (wanted_by (find (λ (it : DepRow). bytes_eq it.dep i.dep) s.deployments) i) None) (only i))
    where
      by : (known : Option Instance) (row : Option Row) (place : Option ℕ) → IsOnlyWanted known place
          → ReadsOf (with_row known row) row place
      by (Some known) (Some row) place alone =
          record { row_is = refl; call_is = alone.call; part_is = alone.part; want_is = alone.want }
      by None (Some row) place alone = record { row_is = refl; call_is = refl; part_is = refl; want_is = alone.want }
      by known None place alone =
          record { row_is = alone.row; call_is = alone.call; part_is = alone.part; want_is = alone.want }

  pub rows_are : (i : Inst) → reading.row_of now i
      ≡ (if is_among same_inst i (map (λ row. row.inst) s.rows) then Some (snapshots.row s i) else None)
  rows_are i =
      (reads i).row_is ∙ by (find (λ (it : Row). same_inst it.inst i) s.rows)
      ∙ (λ j. if sym (among s.rows) j then Some (snapshots.row s i) else None)
    where
      by : (row : Option Row) → row ≡ (if is_some row then Some (snapshots.or_bare i row) else None)
      by (Some row) = refl
      by None = refl

      among : (rows : List Row)
          → is_among same_inst i (map (λ (row : Row). row.inst) rows)
          ≡ is_some (find (λ (it : Row). same_inst it.inst i) rows)
      among [] = refl
      among (row ∷ rows) = (λ j. flipped inst_cmp same_inst inst_order i row.inst j || among rows j)
          ∙ of (same_inst row.inst i) (find (λ (it : Row). same_inst it.inst i) rows)
        where
          of : (b : Bool) (o : Option Row) → (b || is_some o) ≡ is_some (if b then Some row else o)
          of true o = refl
          of false o = refl

  pub no_call : (i : Inst) → option_and_then (λ it. it.call) (reading.instance_of now i) ≡ None
  no_call i = (reads i).call_is

  pub no_part_of : (i : Inst) → option_map_or (λ it. it.part) (reading.instance_of now i) no_part ≡ no_part
  no_part_of i = (reads i).part_is

  pub want_is : (i : Inst) → option_and_then (λ it. it.want) (reading.instance_of now i)
      ≡ option_or (wanted_by (find (λ (it : DepRow). bytes_eq it.dep i.dep) s.deployments) i) None
  want_is i = (reads i).want_is

  -- ---- compile machines, disks and keys

  pub machine_is : (name : MachineName) → reading.machine_of now name
      ≡ option_map anews.machine_of (find (λ (it : CompileRow). same_machine (machine_name it.task it.slot) name) s.compile_rows)
  machine_is name =
      things_read machine_cmp same_machine machine_order (λ (it : CompileRow). machine_name it.task it.slot) anews.machine_of
      s.compile_rows r.machines_apart name

  pub orphan_is : (d : ℕ) → reading.orphan_of now d ≡ option_map loose (find (λ (it : Orphan). eqb it.disk d) s.orphans)
  orphan_is d = things_read nat_cmp eqb number_order (λ (it : Orphan). it.disk) loose s.orphans r.orphans_apart d

  -- a key that is compiled
  abbrev pub compiled_state : BuiltKey → KeyState
  compiled_state built = record (asked built.name) { digest = Some built.digest }

  pub state_is : (key : Key) → reading.state_of now key
      ≡ option_map compiled_state (find (λ (it : BuiltKey). same_key it.key key) s.built_keys)
  state_is key =
      read_all key_cmp same_key key_order (λ (it : BuiltKey). it.key) (λ it state. record state { digest = Some it.digest })
      (λ it. asked it.name) s.built_keys r.keys_apart [] key
      ∙ by (find (λ (it : BuiltKey). same_key it.key key) s.built_keys)
    where
      by : (built : Option BuiltKey)
          → option_map_or (λ it. Some (record (unwrap_or None (asked it.name)) { digest = Some it.digest })) built None
          ≡ option_map compiled_state built
      by (Some built) = refl
      by None = refl

  -- ---- tasks

  pub task_is : (t : ℕ) → reading.task_of now t ≡ find (λ (it : TaskRow). eqb it.task t) s.tasks
  task_is t =
      things_read nat_cmp eqb number_order (λ (it : TaskRow). it.task) (λ it. it) s.tasks
      (numbered_apart 0 s.tasks r.numbered) t
      ∙ by (find (λ (it : TaskRow). eqb it.task t) s.tasks)
    where
      by : (o : Option TaskRow) → option_map (λ it. it) o ≡ o
      by (Some it) = refl
      by None = refl

  pub task_there : (t : ℕ) → is_some (find (λ (it : TaskRow). eqb it.task t) s.tasks) ≡ (nat_le 1 t && nat_le t (length s.tasks))
  task_there t = numbered_found 0 s.tasks r.numbered t ∙ same (length s.tasks)
    where
      same : (n : ℕ) → (nat_lt 0 t && nat_le t (0 + n)) ≡ (nat_le 1 t && nat_le t n)
      same n = grind (arith, nat_tests)

  pub opened_is : length s.tasks ≤ 18446744073709551615 → now.came.opened ≡ length s.tasks
  opened_is small =
      let less : 0 + length s.tasks ≤ 18446744073709551615 = omega arith in
      let same : 0 + length s.tasks ≡ length s.tasks = omega arith in
      opened_are 0 s.tasks less ∙ same
