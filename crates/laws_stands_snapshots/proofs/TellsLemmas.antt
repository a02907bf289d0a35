-- What is recorded once a snapshot was read stands for what it tells, and fits it.
use Rattle.std.proofs.Common.{◌≡◌, ◌∙◌, ◌≤◌, ◌<◌, ℕ, ◌+◌, Bool, true, false, ◌&&◌, ◌||◌, ◌==◌, List, [], ◌∷◌, map, Option, Some}
use Rattle.std.proofs.Common.{None, ap, arith, refl, subst, sym}
use Rattle.std.specs.Prelude.{eqb, find, is_some, length, nat_le, not, if◌then◌else◌}
use Rattle.std.specs.List.{list_all, list_any}
use Rattle.std.specs.Option.{option_and_then, option_map, option_map_or, option_or}
use Rattle.std.specs.Str.{bytes_eq}
use Rattle.std.proofs.lemmas.Bool.{and_parts, eqb-true, false≢true, leb-true, true≢false}
use Rattle.std.proofs.lemmas.List.{length-map}
use Rattle.bosh_base.specs.Cloud.{numbers_to}
use Rattle.bosh_base.specs.declared.entry.Entry.TheVariants as entries
use Rattle.bosh_base.specs.declared.failure.Failure.{Failure}
use Rattle.bosh_base.specs.declared.goal.Goal.{Goal}
use Rattle.bosh_base.specs.declared.inst.Inst.{Inst}
use Rattle.bosh_base.specs.declared.key.Key.{Key}
use Rattle.bosh_base.specs.declared.owner.Owner.{Owner}
use Rattle.bosh_base.specs.declared.owner.Owner.TheVariants.{Compile, Disk, Instance}
use Rattle.bosh_base.specs.declared.snapshot.BuiltKey.{BuiltKey}
use Rattle.bosh_base.specs.declared.snapshot.CompileRow.{CompileRow}
use Rattle.bosh_base.specs.declared.snapshot.DepRow.{DepRow}
use Rattle.bosh_base.specs.declared.snapshot.Orphan.{Orphan}
use Rattle.bosh_base.specs.declared.snapshot.Snapshot.{Snapshot}
use Rattle.bosh_base.specs.declared.task.TaskRow.{TaskRow}
use Rattle.bosh_compile.specs.Readiness.{same_key}
use Rattle.bosh_fold.specs.Anew as anews
use Rattle.bosh_fold.specs.Anew.{anew}
use Rattle.bosh_fold.specs.Calls.{machine_name}
use Rattle.bosh_fold.specs.Learned.{learned}
use Rattle.bosh_fold.specs.Learns.{Learns}
use Rattle.bosh_fold.specs.Planned.{IsPlanned}
use Rattle.bosh_fold.specs.Updates.{loose}
use Rattle.bosh_fold.specs.declared.change.Change.{Change}
use Rattle.bosh_fold.specs.declared.change.Change.TheVariants as changes
use Rattle.bosh_history.specs.Goals.{is_waiting}
use Rattle.bosh_history.specs.Held.{is_open}
use Rattle.bosh_history.specs.Items.{is_finished}
use Rattle.bosh_history.specs.Known.{Task, no_task}
use Rattle.bosh_history.specs.Snapshots as snapshots
use Rattle.bosh_history.specs.Snapshots.{known_by, task_of, task_row}
use Rattle.bosh_history.specs.Words.{is_among}
use Rattle.bosh_records.specs.Changes.{since_cmp}
use Rattle.bosh_records.specs.Ordered.{AreOrdered}
use Rattle.bosh_records.specs.Recorded.{Recorded, recorded}
use Rattle.bosh_records.specs.Table.{thing_in}
use Rattle.bosh_records.specs.declared.keys.KeyState.{KeyState}
use Rattle.bosh_records.specs.declared.machines.Machine.{Machine}
use Rattle.bosh_records.specs.declared.orphans.LooseDisk.{LooseDisk}
use Rattle.bosh_records.specs.declared.records.Records.{Records}
use Rattle.bosh_roll.specs.Upd.{is_busy}
use Rattle.bosh_rows.specs.Same.{same_inst}
use Rattle.bosh_rows.specs.SoundSnapshot.{are_distinct}
use Rattle.bosh_work.specs.declared.part.MachineName.{MachineName}
use Rattle.laws_row_facts.specs.Words.{where_any}
use Rattle.laws_stands.proofs.DeploymentLemmas.{bytes_flip}
use Rattle.laws_stands.specs.Linked.{same_machine, want_place}
use Rattle.laws_stands.specs.Reading as reading
use Rattle.laws_stands.specs.Stands.{StandsIn, call_of, key_of_slot, key_place, row_of_slot}
use Rattle.laws_stands.specs.Told.{TellsWell, Told, is_going, telling}
use Rattle.laws_stands_fits.specs.Fits.{Fits}
use Rattle.laws_stands_fits.specs.Own.{ListsOwn, TellsOwn}
use Rattle.laws_stands_fits.specs.Whole.{StandsWhole}
use Rattle.laws_stands_snapshots.proofs.AnewLemmas.{all_read, anew_is, compiled_state, deployments_are, found_meets}
use Rattle.laws_stands_snapshots.proofs.AnewLemmas.{machine_is, no_call, no_part_of, opened_is, orphan_is, rows_are}
use Rattle.laws_stands_snapshots.proofs.AnewLemmas.{state_is, task_is, task_there, things_are, want_is}
use Rattle.laws_stands_snapshots.proofs.PlacesLemmas as places
use Rattle.laws_stands_snapshots.proofs.PlacesLemmas.{before_tasks}
use Rattle.laws_stands_snapshots.proofs.WantLemmas.{wanted_by}
use Rattle.laws_stands_snapshots.specs.Readable.{IsReadable, is_counted}

none_found : (xs : List ℕ) → find (λ n. false) xs ≡ None
none_found [] = refl
none_found (x ∷ xs) = none_found xs

none_any : (xs : List ℕ) → list_any (λ n. false) xs ≡ false
none_any [] = refl
none_any (x ∷ xs) = none_any xs

-- what holds of all holds of one that is found
all_found : {A : Type 0} (test p : A → Bool) (xs : List A) → list_all p xs ≡ true → (a : A) → find test xs ≡ Some a
    → p a ≡ true
all_found test p [] all a is = absurd cc
all_found {A} test p (x ∷ xs) all a is =
    let (first, rest) = and_parts (p x) (list_all p xs) all in
    by (test x) is first (all_found test p xs rest a)
  where
    by : (b : Bool) → (if b then Some x else find test xs) ≡ Some a → p x ≡ true → (find test xs ≡ Some a → p a ≡ true)
        → p a ≡ true
    by true is first more = let e : x ≡ a = cc in ap p (sym e) ∙ first
    by false is first more = more is

-- ---- tasks of a snapshot

-- a task by its row
abbrev by_row : Snapshot → Option TaskRow → Task
by_row s (Some row) = snapshots.task s row
by_row s None = no_task

task_by : (s : Snapshot) (t : ℕ) (row : Option TaskRow) → find (λ (it : TaskRow). eqb it.task t) s.tasks ≡ row
    → task_of s t ≡ by_row s row
task_by s t (Some row) is = grind (arith, is)
task_by s t None is = grind (arith, is)

-- what holds of each task by its row holds of each task
of_tasks : (P : Task → Type 0) (s : Snapshot) → ((row : TaskRow) → P (snapshots.task s row)) → P no_task → (t : ℕ)
    → P (task_of s t)
of_tasks P s some none t =
    subst P (sym (task_by s t (find (λ (it : TaskRow). eqb it.task t) s.tasks) refl))
    (by (find (λ (it : TaskRow). eqb it.task t) s.tasks))
  where
    by : (row : Option TaskRow) → P (by_row s row)
    by (Some row) = some row
    by None = none

module _ (told : Told) (s : Snapshot) (r : IsReadable s) where
  abbrev new : Told
  new = telling told (entries.Snapshot s)

  abbrev now : Recorded
  now = all_read s

  no_open_call : (owner : Owner) → None ≡ call_of new owner
  no_open_call owner = sym (none_found (numbers_to s.last_call))

  counted : (t c : ℕ) → (task_of s t).calls ≡ Some c → c ≤ s.last_call
  counted t c is = by (find (λ (it : TaskRow). eqb it.task t) s.tasks) refl
    where
      at_most : (row : TaskRow) → row.calls ≡ Some c → is_counted s.last_call row ≡ true → nat_le c s.last_call ≡ true
      at_most row calls test = (λ j. where_any (λ c. nat_le c s.last_call) (sym calls j)) ∙ test

      by : (row : Option TaskRow) → find (λ (it : TaskRow). eqb it.task t) s.tasks ≡ row → c ≤ s.last_call
      by (Some row) there =
          leb-true c s.last_call
          (at_most row (sym (ap (λ (it : Task). it.calls) (task_by s t (Some row) there)) ∙ is)
          (all_found (λ (it : TaskRow). eqb it.task t) (is_counted s.last_call) s.tasks r.counted row there))
      by None there =
          absurd (let e : None ≡ Some c = sym (ap (λ (it : Task). it.calls) (task_by s t None there)) ∙ is in cc)

  pub well : TellsWell new
  well = record {
    number = λ n b is. absurd cc;
    low = λ n b is. absurd cc;
    past = λ n b is. absurd cc;
    begun = λ n b is. absurd cc;
    begun_past = λ n b is. absurd cc;
    failed = λ t failure is. absurd (no_failure t failure is);
    going = λ n b is. absurd cc;
    one_owner = λ c d b e is that. absurd cc;
    one_key = λ c d b e key is that. absurd cc;
    recorded = λ n b i is. absurd cc;
    counted = counted;
    disks_apart = of_tasks (λ task. are_distinct eqb task.disks ≡ true) s (λ row. refl) refl;
    updates = λ t i. of_tasks
        (λ task. is_finished (task.upd i) ≡ (not (is_waiting (task.upd i)) && not (is_busy (task.upd i)))) s
        (λ row. refl) refl t;
  }
    where
      no_failure : (t : ℕ) (failure : Failure) → (task_of s t).failed ≡ Some failure → ⊥
      no_failure t failure = of_tasks (λ task. task.failed ≡ Some failure → ⊥) s (λ row is. absurd cc) (λ is. absurd cc) t

  -- ---- table by table

  machines_are : (name : MachineName)
      → option_map (λ machine. machine.row) (reading.machine_of now name)
      ≡ option_map (row_of_slot name.task name.slot) (new.known.slot name.task name.slot)
  machines_are name =
      ap (option_map (λ (machine : Machine). machine.row)) (machine_is s r name)
      ∙ by (find (λ (it : CompileRow). same_machine (machine_name it.task it.slot) name) s.compile_rows) refl
    where
      by : (row : Option CompileRow)
          → find (λ (it : CompileRow). same_machine (machine_name it.task it.slot) name) s.compile_rows ≡ row
          → option_map (λ (machine : Machine). machine.row) (option_map anews.machine_of row)
          ≡ option_map (row_of_slot name.task name.slot) (option_map snapshots.slot row)
      by (Some it) is =
          let (task, slot) = and_parts (it.task == name.task) (it.slot == name.slot)
          (found_meets (λ (it : CompileRow). same_machine (machine_name it.task it.slot) name) s.compile_rows it is) in
          λ j. Some (record it { task = eqb-true it.task name.task task j; slot = eqb-true it.slot name.slot slot j })
      by None is = refl

  machine_keys_are : (name : MachineName)
      → option_and_then (λ machine. machine.key) (reading.machine_of now name)
      ≡ key_place new.known name.task (key_of_slot (new.known.slot name.task name.slot))
  machine_keys_are name =
      ap (option_and_then (λ (machine : Machine). machine.key)) (machine_is s r name)
      ∙ by (find (λ (it : CompileRow). same_machine (machine_name it.task it.slot) name) s.compile_rows)
    where
      by : (row : Option CompileRow)
          → option_and_then (λ (machine : Machine). machine.key) (option_map anews.machine_of row)
          ≡ key_place new.known name.task (key_of_slot (option_map snapshots.slot row))
      by (Some it) = refl
      by None = refl

  machine_calls_are : (name : MachineName)
      → option_and_then (λ machine. machine.call) (reading.machine_of now name) ≡ call_of new (Compile name.task name.slot)
  machine_calls_are name =
      ap (option_and_then (λ (machine : Machine). machine.call)) (machine_is s r name)
      ∙ by (find (λ (it : CompileRow). same_machine (machine_name it.task it.slot) name) s.compile_rows)
      ∙ no_open_call (Compile name.task name.slot)
    where
      by : (row : Option CompileRow)
          → option_and_then (λ (machine : Machine). machine.call) (option_map anews.machine_of row) ≡ None
      by (Some it) = refl
      by None = refl

  orphans_are : (d : ℕ) → option_map (λ loose. loose.orphan) (reading.orphan_of now d) ≡ new.known.orphan d
  orphans_are d =
      ap (option_map (λ (loose : LooseDisk). loose.orphan)) (orphan_is s r d)
      ∙ by (find (λ (it : Orphan). eqb it.disk d) s.orphans)
    where
      by : (orphan : Option Orphan) → option_map (λ (loose : LooseDisk). loose.orphan) (option_map loose orphan) ≡ orphan
      by (Some it) = refl
      by None = refl

  orphan_calls_are : (d : ℕ) → option_and_then (λ loose. loose.call) (reading.orphan_of now d) ≡ call_of new (Disk d)
  orphan_calls_are d =
      ap (option_and_then (λ (loose : LooseDisk). loose.call)) (orphan_is s r d)
      ∙ by (find (λ (it : Orphan). eqb it.disk d) s.orphans)
      ∙ no_open_call (Disk d)
    where
      by : (orphan : Option Orphan) → option_and_then (λ (loose : LooseDisk). loose.call) (option_map loose orphan) ≡ None
      by (Some it) = refl
      by None = refl

  digests_are : (key : Key) → reading.digest_of now key ≡ new.known.digest key
  digests_are key =
      ap (option_and_then (λ (state : KeyState). state.digest)) (state_is s r key)
      ∙ by (find (λ (it : BuiltKey). same_key it.key key) s.built_keys)
    where
      by : (built : Option BuiltKey)
          → option_and_then (λ (state : KeyState). state.digest) (option_map (compiled_state s r) built)
          ≡ option_map (λ (it : BuiltKey). it.digest) built
      by (Some it) = refl
      by None = refl

  compiling_are : (key : Key) → reading.is_compiling now key ≡ list_any (λ n. false) (numbers_to s.last_call)
  compiling_are key =
      ap (λ state. option_map_or (λ (it : KeyState). is_some it.call) state false) (state_is s r key)
      ∙ by (find (λ (it : BuiltKey). same_key it.key key) s.built_keys)
      ∙ sym (none_any (numbers_to s.last_call))
    where
      by : (built : Option BuiltKey)
          → option_map_or (λ (it : KeyState). is_some it.call) (option_map (compiled_state s r) built) false ≡ false
      by (Some it) = refl
      by None = refl

  tasks_are : (t : ℕ) → reading.task_of now t
      ≡ (if nat_le 1 t && nat_le t (length s.tasks) then Some (task_row new.known t) else None)
  tasks_are t =
      task_is s r t ∙ by (find (λ (it : TaskRow). eqb it.task t) s.tasks) refl
      ∙ (λ j. if task_there s r t j then Some (task_row new.known t) else None)
    where
      -- a row of what is known of its task
      row_by : Task → TaskRow
      row_by it = record {
        task = t;
        kind = it.kind;
        dep = it.dep;
        end = it.end;
        source = it.source;
        calls = it.calls;
      }

      by : (row : Option TaskRow) → find (λ (it : TaskRow). eqb it.task t) s.tasks ≡ row
          → row ≡ (if is_some row then Some (task_row new.known t) else None)
      by (Some it) is =
          (λ j. Some (record it {
            task = eqb-true it.task t
                (found_meets (λ (it : TaskRow). eqb it.task t) s.tasks it is) j;
          }))
          ∙ ap (λ (task : Task). Some (row_by task)) (sym (task_by s t (Some it) is))
      by None is = refl

  none_goes : (t : ℕ) → length s.tasks < t → is_going new.known t ≡ false
  none_goes t later = by (nat_le t (length s.tasks)) refl (nat_le 1 t)
    where
      by : (b : Bool) → nat_le t (length s.tasks) ≡ b → (a : Bool)
          → (a && (nat_le t (length s.tasks) && is_open new.known t)) ≡ false
      by true low a = absurd (let e : t ≤ length s.tasks = leb-true t (length s.tasks) low in omega arith)
      by false high true = λ j. high j && is_open new.known t
      by false high false = refl

  wants_are : (i : Inst) → option_and_then (λ known. known.want) (reading.instance_of now i)
      ≡ option_and_then (λ goal. want_place goal.rows i) (reading.goal_of now i.dep)
  wants_are i =
      want_is s r i ∙ by (find (λ (it : DepRow). bytes_eq it.dep i.dep) s.deployments)
      ∙ (λ j. option_and_then (λ (goal : Goal). want_place goal.rows i)
      (option_map (λ (it : DepRow). it.goal) (find (λ (it : DepRow). bytes_eq it.dep i.dep) (sym (things_are s r) j))))
    where
      by : (row : Option DepRow) → option_or (wanted_by row i) None
          ≡ option_and_then (λ (goal : Goal). want_place goal.rows i) (option_map (λ (it : DepRow). it.goal) row)
      by (Some row) = or_none (want_place row.goal.rows i)
        where
          or_none : (o : Option ℕ) → option_or o None ≡ o
          or_none (Some place) = refl
          or_none None = refl
      by None = refl

  pub stands : length s.tasks ≤ 18446744073709551615 → AreOrdered now → StandsIn new now
  stands small ordered = record {
    uploads = λ i. record {
      releases = s.releases;
      stemcells = s.stemcells;
      config = s.config;
      opened = opened_is s r small i;
      last_call = s.last_call;
    };
    deployments = deployments_are s r;
    rows = rows_are s r;
    row_calls = λ i. no_call s r i ∙ no_open_call (Instance i);
    machines = machines_are;
    machine_keys = λ name later. machine_keys_are name;
    machine_calls = machine_calls_are;
    orphans = orphans_are;
    orphan_calls = orphan_calls_are;
    digests = digests_are;
    compiling = compiling_are;
    tasks = tasks_are;
    calls = λ n. refl;
    works = none_goes;
    linked = record {
      wants = wants_are;
      pings = λ t w i is dep. absurd cc;
      leaving = λ t w i is dep. absurd cc;
      changes = λ t w i is dep. absurd cc;
      sweeps = λ t w name machine is there dep. absurd cc;
      deletions = λ t w d loose is there dep. absurd cc;
    };
    ordered = ordered;
    tells_well = well;
  }

  pub fits : Fits new now
  fits = record {
    swept = λ t w name is listed. absurd cc;
    parts = λ i none. no_part_of s r i;
    sweeps = λ name machine is none. sweeps_none name machine
        (find (λ (it : CompileRow). same_machine (machine_name it.task it.slot) name) s.compile_rows)
        (sym (machine_is s r name) ∙ is);
    deletions = λ d loose is none. deletions_none d loose (find (λ (it : Orphan). eqb it.disk d) s.orphans)
        (sym (orphan_is s r d) ∙ is);
    since = λ since row is. before_tasks (length s.tasks + 1) s.deployments since row
        (sym (ap (λ rows. thing_in since_cmp rows since) (places.read_are s.deployments)) ∙ is);
  }
    where
      sweeps_none : (name : MachineName) (machine : Machine) (row : Option CompileRow)
          → option_map anews.machine_of row ≡ Some machine → machine.sweep ≡ None
      sweeps_none name machine (Some it) is =
          let e : anews.machine_of it ≡ machine = cc in ap (λ (m : Machine). m.sweep) (sym e)
      sweeps_none name machine None is = absurd cc

      deletions_none : (d : ℕ) (disk : LooseDisk) (row : Option Orphan) → option_map loose row ≡ Some disk
          → disk.deleting ≡ None
      deletions_none d disk (Some it) is =
          let e : loose it ≡ disk = cc in ap (λ (m : LooseDisk). m.deleting) (sym e)
      deletions_none d disk None is = absurd cc

  pub own : TellsOwn new
  own = record {
    lists = λ t going. of_tasks ListsOwn s (λ row. nothing_listed (snapshots.task s row) refl refl refl refl)
        (nothing_listed no_task refl refl refl refl) t;
    calls = λ n b is. absurd cc;
    few = few (λ (it : CompileRow). record { task = it.task; slot = it.slot }) s.compile_rows r.few;
    unshared = λ dep none. unshared dep s.deployments none;
  }
    where
      nothing_listed : (t : Task) → t.to_ping ≡ [] → t.obsolete ≡ [] → t.changed ≡ [] → t.disks ≡ [] → ListsOwn t
      nothing_listed t asked leaving changing deleting = record {
        asked = λ i is. absurd (false≢true (sym (ap (is_among same_inst i) asked) ∙ is));
        leaving = λ i is. absurd (false≢true (sym (ap (is_among same_inst i) leaving) ∙ is));
        changing = λ i is. absurd (false≢true (sym (ap (is_among same_inst i) changing) ∙ is));
        deleting = λ d is. absurd (false≢true (sym (ap (is_among eqb d) deleting) ∙ is));
      }

      few : {B : Type 0} (f : CompileRow → B) (rows : List CompileRow) → length rows ≤ s.last_call
          → length (map f rows) ≤ s.last_call
      few f rows low = subst (λ n. n ≤ s.last_call) (sym (length-map rows f)) low

      unshared : (dep : List ℕ) (rows : List DepRow)
          → is_among bytes_eq dep (map (λ (row : DepRow). row.dep) rows) ≡ false
          → snapshots.offers (find (λ (it : DepRow). bytes_eq it.dep dep) rows) ≡ []
      unshared dep [] none = refl
      unshared dep (row ∷ rows) none = by (bytes_eq dep row.dep) refl none (unshared dep rows)
        where
          by : (b : Bool) → bytes_eq dep row.dep ≡ b
              → (b || is_among bytes_eq dep (map (λ (row : DepRow). row.dep) rows)) ≡ false
              → (is_among bytes_eq dep (map (λ (row : DepRow). row.dep) rows) ≡ false
              → snapshots.offers (find (λ (it : DepRow). bytes_eq it.dep dep) rows) ≡ [])
              → snapshots.offers (if bytes_eq row.dep dep then Some row
              else find (λ (it : DepRow). bytes_eq it.dep dep) rows) ≡ []
          by true one none more = absurd (true≢false none)
          by false other none more =
              (λ j. snapshots.offers (if (bytes_flip row.dep dep ∙ other) j then Some row
              else find (λ (it : DepRow). bytes_eq it.dep dep) rows))
              ∙ more none

-- ---- the laws

pub anew_stands : (told : Told) (s : Snapshot) → IsReadable s → length s.tasks ≤ 18446744073709551615
    → AreOrdered (anew s) → StandsIn (telling told (entries.Snapshot s)) (anew s)
anew_stands told s r small ordered =
    subst (StandsIn (telling told (entries.Snapshot s))) (sym (anew_is s))
    (stands told s r small (subst AreOrdered (anew_is s) ordered))

pub anew_fits : (told : Told) (s : Snapshot) → IsReadable s → Fits (telling told (entries.Snapshot s)) (anew s)
anew_fits told s r = subst (Fits (telling told (entries.Snapshot s))) (sym (anew_is s)) (fits told s r)

-- .. and so where it is learned
pub learned_anew : (was : Records) (s : Snapshot) (now : Records) → Learns was (entries.Snapshot s) now → recorded now ≡ anew s
learned_anew was s now learns = by learns.change learns.planned learns.is_learned
  where
    by : (change : Change) → IsPlanned was learns.roomy (entries.Snapshot s) change
        → recorded now ≡ learned (entries.Snapshot s) change (recorded learns.roomy) → recorded now ≡ anew s
    by (changes.Records records) planned is = is ∙ planned
    by change planned is = absurd planned

pub learned_stands : (told : Told) (was : Records) (s : Snapshot) (now : Records) → IsReadable s
    → length s.tasks ≤ 18446744073709551615 → Learns was (entries.Snapshot s) now
    → StandsWhole (telling told (entries.Snapshot s)) now
learned_stands told was s now r small learns =
    let same : recorded now ≡ anew s = learned_anew was s now learns in
    record {
      stands = subst (StandsIn (telling told (entries.Snapshot s))) (sym same)
          (anew_stands told s r small (subst AreOrdered same learns.ordered));
      fits = subst (Fits (telling told (entries.Snapshot s))) (sym same) (anew_fits told s r);
      own = own told s r;
    }
