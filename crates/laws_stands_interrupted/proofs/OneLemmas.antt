-- What one call that is open no more changes in each table.
use Rattle.std.proofs.Common.{◌≡◌, ◌∙◌, ℕ, ◌&&◌, Option, None, ap, refl}
use Rattle.std.specs.Prelude.{option_map, if◌then◌else◌}
use Rattle.std.specs.Ordering.{nat_cmp}
use Rattle.bosh_base.specs.Inst.{inst_cmp}
use Rattle.bosh_base.specs.declared.call.Call.{Call}
use Rattle.bosh_base.specs.declared.call.Call.TheVariants as calls
use Rattle.bosh_base.specs.declared.entry.Begin.{Begin}
use Rattle.bosh_base.specs.declared.inst.Inst.{Inst}
use Rattle.bosh_base.specs.declared.key.Key.{Key}
use Rattle.bosh_base.specs.declared.owner.Owner.{Owner}
use Rattle.bosh_base.specs.declared.owner.Owner.TheVariants.{Compile, Disk}
use Rattle.bosh_base.specs.declared.owner.Owner.TheVariants as owners
use Rattle.bosh_fold.specs.Calls.{closed_call, machine_name, with_call, with_compiling}
use Rattle.bosh_history.specs.Steps.{compiles}
use Rattle.bosh_records.specs.Changes.{with_disk_call, with_machine_call}
use Rattle.bosh_records.specs.Keys.{key_cmp}
use Rattle.bosh_records.specs.Readers.{machine_cmp}
use Rattle.bosh_records.specs.Recorded.{Recorded}
use Rattle.bosh_records.specs.Table.{found}
use Rattle.bosh_records.specs.declared.instances.Instance.{Instance}
use Rattle.bosh_records.specs.declared.keys.KeyState.{KeyState}
use Rattle.bosh_records.specs.declared.machines.Machine.{Machine}
use Rattle.bosh_records.specs.declared.orphans.LooseDisk.{LooseDisk}
use Rattle.bosh_rows.specs.Same.{same_owner}
use Rattle.bosh_work.specs.declared.part.MachineName.{MachineName}
use Rattle.laws_stands_closed.proofs.ClearedLemmas.{machine_at}
use Rattle.laws_stands_on.proofs.CallLemmas.{inst_flip}
use Rattle.laws_stands_on.proofs.ChangedLemmas.{eqb_flip}
use Rattle.laws_stands_on.proofs.KeyLemmas.{inst_at, inst_keys, key_keys, machine_keys}
use Rattle.laws_stands_on.proofs.TableLemmas.{found_altered, nat_at, nat_keys}
use Rattle.laws_stands_slots.proofs.KeyBuiltLemmas.{key_at}

-- no open call is of it any more
abbrev pub no_call : Instance → Instance
no_call known = record known { call = None }

-- .. of the place of a machine
abbrev pub no_machine_call : Option Machine → Option Machine
no_machine_call place = option_map (with_machine_call None) place

-- .. or of a disk
abbrev pub no_disk_call : Option LooseDisk → Option LooseDisk
no_disk_call place = option_map (with_disk_call None) place

-- no open call compiles it any more
abbrev pub no_compiler : KeyState → KeyState
no_compiler state = record state { call = None }

-- the table of instances is not touched by what compiles
pub instances_left : (call : Call) (it : Recorded) → (with_compiling call None it).instances ≡ it.instances
instances_left (calls.CompilePackage vm work deps) it = refl
instances_left call it = refl

pub instance_one : (b : Begin) (it : Recorded) (i : Inst) → found inst_cmp (closed_call b it).instances i
    ≡ (if same_owner (owners.Instance i) b.owner then option_map no_call (found inst_cmp it.instances i)
    else found inst_cmp it.instances i)
instance_one b it i =
    ap (λ all. found inst_cmp all i) (instances_left b.call (with_call b.owner None it)) ∙ by b.owner
  where
    by : (owner : Owner) → found inst_cmp (with_call owner None it).instances i
        ≡ (if same_owner (owners.Instance i) owner then option_map no_call (found inst_cmp it.instances i)
        else found inst_cmp it.instances i)
    by (owners.Instance j) = found_altered inst_cmp inst_keys j no_call it.instances i
        ∙ (λ l. if (inst_at j i ∙ inst_flip i j) l then option_map no_call (found inst_cmp it.instances i)
        else found inst_cmp it.instances i)
    by (Compile t s) = refl
    by (Disk d) = refl

pub machines_left : (call : Call) (it : Recorded) → (with_compiling call None it).machines ≡ it.machines
machines_left (calls.CompilePackage vm work deps) it = refl
machines_left call it = refl

pub machine_one : (b : Begin) (it : Recorded) (name : MachineName) → found machine_cmp (closed_call b it).machines name
    ≡ (if same_owner (Compile name.task name.slot) b.owner
    then option_map no_machine_call (found machine_cmp it.machines name)
    else found machine_cmp it.machines name)
machine_one b it name =
    ap (λ all. found machine_cmp all name) (machines_left b.call (with_call b.owner None it)) ∙ by b.owner
  where
    by : (owner : Owner) → found machine_cmp (with_call owner None it).machines name
        ≡ (if same_owner (Compile name.task name.slot) owner then option_map no_machine_call (found machine_cmp it.machines name)
        else found machine_cmp it.machines name)
    by (owners.Instance j) = refl
    by (Compile t s) =
        found_altered machine_cmp machine_keys (machine_name t s) no_machine_call it.machines name
        ∙ (λ l. if (machine_at (machine_name t s) name
        ∙ (λ l. eqb_flip t name.task l && eqb_flip s name.slot l)) l then option_map no_machine_call (found machine_cmp it.machines name)
        else found machine_cmp it.machines name)
    by (Disk d) = refl

pub orphans_left : (call : Call) (it : Recorded) → (with_compiling call None it).orphans ≡ it.orphans
orphans_left (calls.CompilePackage vm work deps) it = refl
orphans_left call it = refl

pub orphan_one : (b : Begin) (it : Recorded) (d : ℕ) → found nat_cmp (closed_call b it).orphans d
    ≡ (if same_owner (Disk d) b.owner then option_map no_disk_call (found nat_cmp it.orphans d)
    else found nat_cmp it.orphans d)
orphan_one b it d = ap (λ all. found nat_cmp all d) (orphans_left b.call (with_call b.owner None it)) ∙ by b.owner
  where
    by : (owner : Owner) → found nat_cmp (with_call owner None it).orphans d
        ≡ (if same_owner (Disk d) owner then option_map no_disk_call (found nat_cmp it.orphans d) else found nat_cmp it.orphans d)
    by (owners.Instance j) = refl
    by (Compile t s) = refl
    by (Disk e) = found_altered nat_cmp nat_keys e no_disk_call it.orphans d
        ∙ (λ l. if (nat_at e d ∙ eqb_flip e d) l then option_map no_disk_call (found nat_cmp it.orphans d) else found nat_cmp it.orphans d)

pub keys_left : (owner : Owner) (it : Recorded) → (with_call owner None it).keys ≡ it.keys
keys_left (owners.Instance i) it = refl
keys_left (Compile t s) it = refl
keys_left (Disk d) it = refl

pub key_one : (b : Begin) (it : Recorded) (key : Key) → found key_cmp (closed_call b it).keys key
    ≡ (if compiles key b.call then option_map no_compiler (found key_cmp it.keys key) else found key_cmp it.keys key)
key_one b it key =
    by b.call
    ∙ (λ j. if compiles key b.call then option_map no_compiler (found key_cmp (keys_left b.owner it j) key)
    else found key_cmp (keys_left b.owner it j) key)
  where
    by : (call : Call) → found key_cmp (with_compiling call None (with_call b.owner None it)).keys key
        ≡ (if compiles key call then option_map no_compiler (found key_cmp (with_call b.owner None it).keys key)
        else found key_cmp (with_call b.owner None it).keys key)
    by (calls.CompilePackage vm work deps) =
        found_altered key_cmp key_keys work.key no_compiler (with_call b.owner None it).keys key
        ∙ (λ j. if key_at work.key key j then option_map no_compiler (found key_cmp (with_call b.owner None it).keys key)
        else found key_cmp (with_call b.owner None it).keys key)
    by call = refl
