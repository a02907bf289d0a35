-- What is read once the calls of a task are open no more.
use Rattle.std.proofs.Common.{◌≡◌, ◌∙◌, ℕ, Bool, true, false, List, Option, Some, None, ap, refl}
use Rattle.std.specs.Prelude.{fold, is_some, option_map, if◌then◌else◌}
use Rattle.std.specs.List.{list_any}
use Rattle.std.specs.Option.{option_and_then, option_map_or}
use Rattle.std.specs.Ordering.{nat_cmp}
use Rattle.bosh_base.specs.Inst.{inst_cmp}
use Rattle.bosh_base.specs.declared.call.Call.{Call}
use Rattle.bosh_base.specs.declared.call.Call.TheVariants as calls
use Rattle.bosh_base.specs.declared.entry.Begin.{Begin}
use Rattle.bosh_base.specs.declared.inst.Inst.{Inst}
use Rattle.bosh_base.specs.declared.key.Key.{Key}
use Rattle.bosh_base.specs.declared.owner.Owner.{Owner}
use Rattle.bosh_base.specs.declared.owner.Owner.TheVariants as owners
use Rattle.bosh_base.specs.declared.snapshot.DepRow.{DepRow}
use Rattle.bosh_base.specs.declared.task.TaskRow.{TaskRow}
use Rattle.bosh_fold.specs.Calls.{with_call, with_compiling}
use Rattle.bosh_fold.specs.Tasks.{calls_of, forgotten_call}
use Rattle.bosh_history.specs.Steps.{compiles}
use Rattle.bosh_records.specs.Arrivals.{Arrivals}
use Rattle.bosh_records.specs.Changes.{with_disk_call, with_machine_call}
use Rattle.bosh_records.specs.Keys.{key_cmp}
use Rattle.bosh_records.specs.Readers.{machine_cmp}
use Rattle.bosh_records.specs.Recorded.{Recorded}
use Rattle.bosh_records.specs.Table.{found}
use Rattle.bosh_records.specs.declared.instances.Instance.{Instance}
use Rattle.bosh_records.specs.declared.keys.KeyState.{KeyState}
use Rattle.bosh_records.specs.declared.machines.Machine.{Machine}
use Rattle.bosh_records.specs.declared.orphans.LooseDisk.{LooseDisk}
use Rattle.bosh_records.specs.declared.records.Since.{Since}
use Rattle.bosh_rows.specs.Same.{same_owner}
use Rattle.bosh_work.specs.declared.part.MachineName.{MachineName}
use Rattle.bosh_work.specs.declared.work.Work.{Work}
use Rattle.laws_stands.specs.Reading.{digest_of, instance_of, is_compiling, machine_of, orphan_of}
use Rattle.laws_stands_interrupted.proofs.ForgottenLemmas.{many, rest_same}
use Rattle.laws_stands_interrupted.proofs.OneLemmas.{instance_one, key_one, machine_one, no_call, no_compiler}
use Rattle.laws_stands_interrupted.proofs.OneLemmas.{no_disk_call, no_machine_call, orphan_one}

-- what no call changes
abbrev rest : Recorded → Arrivals × List (Since × Option DepRow) × List (ℕ × Option TaskRow) × List (ℕ × Option Work)
rest it = (it.came, it.deployments, it.tasks, it.works)

rest_by_owner : (owner : Owner) (it : Recorded) → rest (with_call owner None it) ≡ rest it
rest_by_owner (owners.Instance i) it = refl
rest_by_owner (owners.Compile t s) it = refl
rest_by_owner (owners.Disk d) it = refl

rest_by_call : (call : Call) (it : Recorded) → rest (with_compiling call None it) ≡ rest it
rest_by_call (calls.CompilePackage vm work deps) it = refl
rest_by_call call it = refl

machine_twice : (place : Option Machine) → no_machine_call (no_machine_call place) ≡ no_machine_call place
machine_twice (Some machine) = refl
machine_twice None = refl

disk_twice : (place : Option LooseDisk) → no_disk_call (no_disk_call place) ≡ no_disk_call place
disk_twice (Some loose) = refl
disk_twice None = refl

-- one of the calls is of the owner
abbrev pub is_of : Owner → Begin → Bool
is_of owner b = same_owner owner b.owner

-- .. or compiles the key
abbrev pub is_for : Key → Begin → Bool
is_for key b = compiles key b.call

module _ (t : ℕ) (it : Recorded) where
  -- the open calls of the task
  abbrev pub begins : List Begin
  begins = calls_of t it.calls

  -- what is recorded once each of them is closed
  abbrev pub folded : Recorded
  folded = fold forgotten_call it begins

  rest_folded : rest folded ≡ rest it
  rest_folded = rest_same rest rest_by_owner rest_by_call begins it

  pub came_is : folded.came ≡ it.came
  came_is = λ j. (rest_folded j).0

  pub deployments_are : folded.deployments ≡ it.deployments
  deployments_are = λ j. (rest_folded j).1

  pub tasks_are : folded.tasks ≡ it.tasks
  tasks_are = λ j. (rest_folded j).2

  pub works_are : folded.works ≡ it.works
  works_are = λ j. (rest_folded j).3

  -- ---- instances

  instance_found : (i : Inst) → instance_of folded i
      ≡ (if list_any (is_of (owners.Instance i)) begins then option_map no_call (instance_of it i) else instance_of it i)
  instance_found i =
      many inst_cmp (λ it. it.instances) no_call (λ known. refl) (λ i. is_of (owners.Instance i)) instance_one begins it i

  pub instance_read : {Y : Type 0} (read : Instance → Option Y) → ((known : Instance) → read (no_call known) ≡ read known)
      → (i : Inst) → option_and_then read (instance_of folded i) ≡ option_and_then read (instance_of it i)
  instance_read read same i =
      ap (option_and_then read) (instance_found i)
      ∙ by (list_any (is_of (owners.Instance i)) begins) (instance_of it i)
    where
      by : (b : Bool) (o : Option Instance)
          → option_and_then read (if b then option_map no_call o else o) ≡ option_and_then read o
      by true (Some known) = same known
      by true None = refl
      by false o = refl

  pub instance_call : (i : Inst) → option_and_then (λ known. known.call) (instance_of folded i)
      ≡ (if list_any (is_of (owners.Instance i)) begins then None
      else option_and_then (λ known. known.call) (instance_of it i))
  instance_call i =
      ap (option_and_then (λ (known : Instance). known.call)) (instance_found i)
      ∙ by (list_any (is_of (owners.Instance i)) begins) (instance_of it i)
    where
      by : (b : Bool) (o : Option Instance)
          → option_and_then (λ (known : Instance). known.call) (if b then option_map no_call o else o)
          ≡ (if b then None else option_and_then (λ (known : Instance). known.call) o)
      by true (Some known) = refl
      by true None = refl
      by false o = refl

  -- ---- compile machines

  machine_found : (name : MachineName) → found machine_cmp folded.machines name
      ≡ (if list_any (is_of (owners.Compile name.task name.slot)) begins
      then option_map no_machine_call (found machine_cmp it.machines name) else found machine_cmp it.machines name)
  machine_found name =
      many machine_cmp (λ it. it.machines) no_machine_call machine_twice
      (λ name. is_of (owners.Compile name.task name.slot)) machine_one begins it name

  pub machine_read : {Y : Type 0} (read : Machine → Option Y)
      → ((machine : Machine) → read (with_machine_call None machine) ≡ read machine) → (name : MachineName)
      → option_and_then read (machine_of folded name) ≡ option_and_then read (machine_of it name)
  machine_read read same name =
      ap (λ o. option_and_then read (option_and_then (λ place. place) o)) (machine_found name)
      ∙ by (list_any (is_of (owners.Compile name.task name.slot)) begins) (found machine_cmp it.machines name)
    where
      by : (b : Bool) (o : Option (Option Machine))
          → option_and_then read (option_and_then (λ place. place) (if b then option_map no_machine_call o else o))
          ≡ option_and_then read (option_and_then (λ place. place) o)
      by true (Some (Some machine)) = same machine
      by true (Some None) = refl
      by true None = refl
      by false o = refl

  pub machine_call : (name : MachineName) → option_and_then (λ machine. machine.call) (machine_of folded name)
      ≡ (if list_any (is_of (owners.Compile name.task name.slot)) begins then None
      else option_and_then (λ machine. machine.call) (machine_of it name))
  machine_call name =
      ap (λ o. option_and_then (λ (machine : Machine). machine.call) (option_and_then (λ place. place) o))
      (machine_found name)
      ∙ by (list_any (is_of (owners.Compile name.task name.slot)) begins) (found machine_cmp it.machines name)
    where
      by : (b : Bool) (o : Option (Option Machine))
          → option_and_then (λ (machine : Machine). machine.call)
          (option_and_then (λ place. place) (if b then option_map no_machine_call o else o))
          ≡ (if b then None else option_and_then (λ (machine : Machine). machine.call) (option_and_then (λ place. place) o))
      by true (Some (Some machine)) = refl
      by true (Some None) = refl
      by true None = refl
      by false o = refl

  -- ---- disks

  orphan_found : (d : ℕ) → found nat_cmp folded.orphans d
      ≡ (if list_any (is_of (owners.Disk d)) begins then option_map no_disk_call (found nat_cmp it.orphans d)
      else found nat_cmp it.orphans d)
  orphan_found d =
      many nat_cmp (λ it. it.orphans) no_disk_call disk_twice (λ d. is_of (owners.Disk d)) orphan_one begins it d

  pub orphan_read : {Y : Type 0} (read : LooseDisk → Option Y)
      → ((loose : LooseDisk) → read (with_disk_call None loose) ≡ read loose) → (d : ℕ)
      → option_and_then read (orphan_of folded d) ≡ option_and_then read (orphan_of it d)
  orphan_read read same d =
      ap (λ o. option_and_then read (option_and_then (λ place. place) o)) (orphan_found d)
      ∙ by (list_any (is_of (owners.Disk d)) begins) (found nat_cmp it.orphans d)
    where
      by : (b : Bool) (o : Option (Option LooseDisk))
          → option_and_then read (option_and_then (λ place. place) (if b then option_map no_disk_call o else o))
          ≡ option_and_then read (option_and_then (λ place. place) o)
      by true (Some (Some loose)) = same loose
      by true (Some None) = refl
      by true None = refl
      by false o = refl

  pub orphan_call : (d : ℕ) → option_and_then (λ loose. loose.call) (orphan_of folded d)
      ≡ (if list_any (is_of (owners.Disk d)) begins then None
      else option_and_then (λ loose. loose.call) (orphan_of it d))
  orphan_call d =
      ap (λ o. option_and_then (λ (loose : LooseDisk). loose.call) (option_and_then (λ place. place) o)) (orphan_found d)
      ∙ by (list_any (is_of (owners.Disk d)) begins) (found nat_cmp it.orphans d)
    where
      by : (b : Bool) (o : Option (Option LooseDisk))
          → option_and_then (λ (loose : LooseDisk). loose.call)
          (option_and_then (λ place. place) (if b then option_map no_disk_call o else o))
          ≡ (if b then None else option_and_then (λ (loose : LooseDisk). loose.call) (option_and_then (λ place. place) o))
      by true (Some (Some loose)) = refl
      by true (Some None) = refl
      by true None = refl
      by false o = refl

  -- ---- keys

  key_found : (key : Key) → found key_cmp folded.keys key
      ≡ (if list_any (is_for key) begins then option_map no_compiler (found key_cmp it.keys key)
      else found key_cmp it.keys key)
  key_found key = many key_cmp (λ it. it.keys) no_compiler (λ state. refl) is_for key_one begins it key

  pub digest_same : (key : Key) → digest_of folded key ≡ digest_of it key
  digest_same key =
      ap (option_and_then (λ (state : KeyState). state.digest)) (key_found key)
      ∙ by (list_any (is_for key) begins) (found key_cmp it.keys key)
    where
      by : (b : Bool) (o : Option KeyState)
          → option_and_then (λ (state : KeyState). state.digest) (if b then option_map no_compiler o else o)
          ≡ option_and_then (λ (state : KeyState). state.digest) o
      by true (Some state) = refl
      by true None = refl
      by false o = refl

  pub key_call : (key : Key) → is_compiling folded key
      ≡ (if list_any (is_for key) begins then false else is_compiling it key)
  key_call key =
      ap (λ o. option_map_or (λ (state : KeyState). is_some state.call) o false) (key_found key)
      ∙ by (list_any (is_for key) begins) (found key_cmp it.keys key)
    where
      by : (b : Bool) (o : Option KeyState)
          → option_map_or (λ (state : KeyState). is_some state.call) (if b then option_map no_compiler o else o) false
          ≡ (if b then false else option_map_or (λ (state : KeyState). is_some state.call) o false)
      by true (Some state) = refl
      by true None = refl
      by false o = refl
