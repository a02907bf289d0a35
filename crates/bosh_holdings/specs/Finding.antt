-- Which machine is an instance's, and which disk its jobs work on.
use Rattle.std.specs.Prelude.{ℕ, suc, zero, Bool, true, false, not, ◌&&◌, ◌||◌, ◌==◌, if◌then◌else◌, List, find, slice_get, Option, Some, None, option_map}
use Rattle.std.specs.List.{list_any}
use Rattle.std.specs.Option.{option_and_then}
use Rattle.bosh_base.specs.Cloud.{disk_of, disks_created, is_disk_there, is_vm_there, machine_of, vms_created}
use Rattle.bosh_base.specs.contracts.inst.InstPartialEq.TheImpl as inst_test
use Rattle.bosh_base.specs.declared.entry.Entry.{Entry}
use Rattle.bosh_base.specs.declared.row.DiskRow.{DiskRow}
use Rattle.bosh_base.specs.declared.row.Row.{Row}
use Rattle.bosh_base.specs.declared.inst.Inst.{Inst}
use Rattle.bosh_base.specs.declared.machine.Machine.{Machine}
use Rattle.bosh_base.specs.declared.owner.Owner.{Owner}
use Rattle.bosh_base.specs.declared.owner.Owner.TheVariants.{Instance}
use Rattle.bosh_records.specs.Readers.{row_at}
use Rattle.bosh_records.specs.declared.records.Records.{Records}
use Rattle.bosh_inventory.specs.Rows.{slots}
use Rattle.bosh_rows.specs.Disks.{is_active}

-- the active disk among those that are recorded
abbrev pub active_in : List DiskRow → Option ℕ
active_in disks = option_map (λ disk. disk.disk) (find is_active disks)

-- .. of a row, and of an instance
abbrev pub active_of : Option Row → Option ℕ
active_of row = option_and_then (λ row. active_in row.disks) row

abbrev pub active_disk : Records → Inst → Option ℕ
active_disk records inst = active_of (row_at records inst)

abbrev pub is_owned : Inst → Owner → Bool
is_owned inst (Instance whose) = inst_test.ghosts.eq whose inst
is_owned inst owner = false

abbrev pub is_of : Inst → Machine → Bool
is_of inst machine = is_owned inst machine.owner

abbrev pub is_its : Inst → Option Machine → Bool
is_its inst (Some machine) = is_of inst machine
is_its inst None = false

-- the first machine that is an instance's own
abbrev pub first_of : List (Option Machine) → Inst → Option Machine
first_of machines inst = option_and_then (λ slot. slot) (find (is_its inst) machines)

-- the thing of a number, counted from 1, where it is there
abbrev pub thing_of : {T : Type 0} → List (Option T) → ℕ → Option T
thing_of slots zero = None
thing_of slots (suc n) = option_and_then (λ slot. slot) (slice_get slots n)

abbrev pub kept_if : {T : Type 0} → (T → Bool) → Option T → Option T
kept_if test (Some it) = if test it then Some it else None
kept_if test None = None

abbrev pub or_else : {T : Type 0} → Option T → Option T → Option T
or_else (Some it) other = Some it
or_else None other = other

-- the recorded machine of an instance, by its row, where it is there
abbrev pub recorded_of : Option Row → List (Option Machine) → Inst → Option Machine
recorded_of row machines inst =
    option_and_then (λ row. option_and_then (λ vm. kept_if (is_of inst) (thing_of machines vm.vm)) row.vm) row

abbrev pub recorded : Records → List (Option Machine) → Inst → Option Machine
recorded records machines inst = recorded_of (row_at records inst) machines inst

-- .. or else the first that is its own
abbrev pub its_machine_of : Option Row → List (Option Machine) → Inst → Option Machine
its_machine_of row machines inst = or_else (recorded_of row machines inst) (first_of machines inst)

abbrev pub its_machine : Records → List (Option Machine) → Inst → Option Machine
its_machine records machines inst = its_machine_of (row_at records inst) machines inst

-- it runs, and the disk is mounted there
abbrev pub runs_with : ℕ → Machine → Bool
runs_with disk machine = machine.running && list_any (λ it. it == disk) machine.mounted

-- the active disk of an instance, where its machine runs and it is mounted there; the machine may have to answer
abbrev pub job_disk_of : Option Row → List (Option Machine) → Inst → Bool → Option ℕ
job_disk_of row machines inst answers =
    option_and_then
    (λ disk. option_map (λ machine. disk)
    (kept_if (λ machine. runs_with disk machine && not (answers && machine.silent))
    (its_machine_of row machines inst)))
    (active_of row)

abbrev pub job_disk : Records → List (Option Machine) → Inst → Bool → Option ℕ
job_disk records machines inst answers = job_disk_of (row_at records inst) machines inst answers

-- the machines of a cloud by number
abbrev pub machines_in : List Entry → List (Option Machine)
machines_in effects = slots (machine_of effects) (vms_created effects)

-- the disk that a job of an instance writes to, by its row
abbrev pub written_disk_of : Option Row → List Entry → Inst → Option ℕ
written_disk_of row effects inst =
    kept_if (is_disk_there effects) (job_disk_of row (machines_in effects) inst true)

abbrev pub written_disk : Records → List Entry → Inst → Option ℕ
written_disk records effects inst = written_disk_of (row_at records inst) effects inst

-- the machine that is lost with an instance, by its row
abbrev pub lost_vm_of : Option Row → List Entry → Inst → Option ℕ
lost_vm_of row effects inst =
    kept_if (is_vm_there effects) (option_map (λ machine. machine.vm) (its_machine_of row (machines_in effects) inst))

abbrev pub lost_vm : Records → List Entry → Inst → Option ℕ
lost_vm records effects inst = lost_vm_of (row_at records inst) effects inst

-- what the disk of an instance holds, whose machine runs, by its row
abbrev pub read_disk_of : Option Row → List Entry → Inst → Option (List ℕ)
read_disk_of row effects inst =
    option_and_then (λ disk. option_map (λ it. it.contents) (thing_of (slots (disk_of effects) (disks_created effects)) disk))
    (job_disk_of row (machines_in effects) inst false)

abbrev pub read_disk : Records → List Entry → Inst → Option (List ℕ)
read_disk records effects inst = read_disk_of (row_at records inst) effects inst
