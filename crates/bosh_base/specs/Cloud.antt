-- The cloud as a function of what was done to it: a list of the effects of calls, of writes by running jobs
-- and of losses. Each fact of a machine or disk is the answer of the latest entry that sets it, and an entry
-- that the list lacks counts as earlier than all
-- (bosh.io, "CPI API v1" and "Agent API", in this project's profile).
use Prim.Native.Nat.{zero, suc}
use Rattle.std.specs.Prelude.{ℕ, ◌+◌, Bool, true, false, not, ◌&&◌, ◌==◌, if◌then◌else◌, Option, Some, None, List, [], ◌∷◌, ◌++◌, filter, fold, count_by}
use Rattle.std.specs.List.{filter_map}
use Rattle.std.specs.Option.{option_map, option_and_then}
use Rattle.bosh_base.specs.History.{latest, latest_seen}
use Rattle.bosh_base.specs.declared.call.Call.{Call}
use Rattle.bosh_base.specs.declared.call.Call.TheVariants.{CreateVm, DeleteVm, CreateDisk, DeleteDisk, AttachDisk, DetachDisk, Apply, Start, Drain, Stop, MountDisk, UnmountDisk, MigrateDisk}
use Rattle.bosh_base.specs.declared.disk_want.DiskWant.{DiskWant}
use Rattle.bosh_base.specs.declared.entry.Effect as effect
use Rattle.bosh_base.specs.declared.entry.Entry.{Entry}
use Rattle.bosh_base.specs.declared.entry.Entry.TheVariants.{Effect, Write, Lost}
use Rattle.bosh_base.specs.declared.machine.Disk.{Disk}
use Rattle.bosh_base.specs.declared.machine.Machine.{Machine}
use Rattle.bosh_base.specs.declared.make.Make.{Make}
use Rattle.bosh_base.specs.declared.spec.Spec.{Spec}

-- the answer, where the test holds
abbrev pub when : {A : Type 0} → Bool → A → Option A
when test answer = if test then Some answer else None

-- the answer of a call that had its effect
abbrev pub by_call : {A : Type 0} → (Call → Option A) → Entry → Option A
by_call answer (Effect e) = answer e.call
by_call answer entry = None

-- ---- machines, numbered from 1 as they are created

abbrev pub creates_vm : Call → Bool
creates_vm (CreateVm make disks) = true
creates_vm call = false

abbrev pub is_vm_creation : Entry → Bool
is_vm_creation (Effect e) = creates_vm e.call
is_vm_creation entry = false

-- how many were created
abbrev pub vms_created : List Entry → ℕ
vms_created entries = count_by is_vm_creation entries

-- machine v is the one of the v-th creation
abbrev pub vm_created : ℕ → List Entry → Entry → Option (Option effect.Effect)
vm_created v before (Effect e) = when (creates_vm e.call && vms_created before + 1 == v) (Some e)
vm_created v before entry = None

abbrev pub vm_creation : List Entry → ℕ → Option effect.Effect
vm_creation entries v = latest_seen (vm_created v) None [] entries

-- it is there from its creation on, until it is deleted or lost whole
abbrev pub vm_stays : ℕ → ℕ → Call → Option Bool
vm_stays v created (CreateVm make disks) = when (created + 1 == v) true
vm_stays v created (DeleteVm vm) = when (vm == v) false
vm_stays v created call = None

abbrev pub vm_presence : ℕ → List Entry → Entry → Option Bool
vm_presence v before (Effect e) = vm_stays v (vms_created before) e.call
vm_presence v before (Lost loss) = when (loss.whole && loss.vm == v) false
vm_presence v before entry = None

abbrev pub is_vm_there : List Entry → ℕ → Bool
is_vm_there entries v = latest_seen (vm_presence v) false [] entries

-- its agent falls silent where the agent alone is lost
abbrev pub silence : ℕ → Entry → Option Bool
silence v (Lost loss) = when (not loss.whole && loss.vm == v) true
silence v entry = None

abbrev pub is_silent : List Entry → ℕ → Bool
is_silent entries v = latest (silence v) false entries

-- its spec is that of its last apply
abbrev pub applied : ℕ → Call → Option (Option Spec)
applied v (Apply vm spec) = when (vm == v) (Some spec)
applied v call = None

abbrev pub spec_of : List Entry → ℕ → Option Spec
spec_of entries v = latest (by_call (applied v)) None entries

-- it runs where its last start is later than its last stop
abbrev pub started : ℕ → Call → Option Bool
started v (Start vm) = when (vm == v) true
started v (Stop vm) = when (vm == v) false
started v call = None

abbrev pub is_running : List Entry → ℕ → Bool
is_running entries v = latest (by_call (started v)) false entries

-- it is drained where its last drain is later than its last start
abbrev pub drained : ℕ → Call → Option Bool
drained v (Drain vm) = when (vm == v) true
drained v (Start vm) = when (vm == v) false
drained v call = None

abbrev pub is_drained : List Entry → ℕ → Bool
is_drained entries v = latest (by_call (drained v)) false entries

-- ---- disks, numbered from 1 as they are created

abbrev pub creates_disk : Call → Bool
creates_disk (CreateDisk want vm) = true
creates_disk call = false

abbrev pub is_disk_creation : Entry → Bool
is_disk_creation (Effect e) = creates_disk e.call
is_disk_creation entry = false

abbrev pub disks_created : List Entry → ℕ
disks_created entries = count_by is_disk_creation entries

-- disk d is the one of the d-th creation, and its tag is the number of that call
abbrev pub disk_created : ℕ → List Entry → Entry → Option (Option effect.Effect)
disk_created d before (Effect e) = when (creates_disk e.call && disks_created before + 1 == d) (Some e)
disk_created d before entry = None

abbrev pub disk_creation : List Entry → ℕ → Option effect.Effect
disk_creation entries d = latest_seen (disk_created d) None [] entries

-- it is there from its creation on, until it is deleted
abbrev pub disk_stays : ℕ → ℕ → Call → Option Bool
disk_stays d created (CreateDisk want vm) = when (created + 1 == d) true
disk_stays d created (DeleteDisk disk) = when (disk == d) false
disk_stays d created call = None

abbrev pub disk_presence : ℕ → List Entry → Entry → Option Bool
disk_presence d before (Effect e) = disk_stays d (disks_created before) e.call
disk_presence d before entry = None

abbrev pub is_disk_there : List Entry → ℕ → Bool
is_disk_there entries d = latest_seen (disk_presence d) false [] entries

-- the last attach or detach of it
abbrev pub attached : ℕ → Call → Option (Option ℕ)
attached d (AttachDisk vm disk) = when (disk == d) (Some vm)
attached d (DetachDisk vm disk) = when (disk == d) None
attached d call = None

-- the machine, where it is there
abbrev pub present : List Entry → ℕ → Option ℕ
present entries v = when (is_vm_there entries v) v

-- it is attached to the machine of its last attach, where no detach came later and that machine is there
abbrev pub holder_of : List Entry → ℕ → Option ℕ
holder_of entries d = option_and_then (present entries) (latest (by_call (attached d)) None entries)

-- it is mounted where, after its last attach, its last mount or unmount mounts it
abbrev pub mounts : ℕ → Call → Option Bool
mounts d (AttachDisk vm disk) = when (disk == d) false
mounts d (MountDisk vm disk) = when (disk == d) true
mounts d (UnmountDisk vm disk) = when (disk == d) false
mounts d call = None

abbrev pub is_disk_mounted : List Entry → ℕ → Bool
is_disk_mounted entries d = latest (by_call (mounts d)) false entries

-- the contents of each disk after an entry: a write gives those of its disk, and a migration those of the
-- disk that it comes from
abbrev pub contents_after_call : (ℕ → List ℕ) → Call → ℕ → List ℕ
contents_after_call contents (MigrateDisk vm from to) = λ d. if d == to then contents from else contents d
contents_after_call contents call = contents

abbrev pub contents_after : (ℕ → List ℕ) → Entry → ℕ → List ℕ
contents_after contents (Effect e) = contents_after_call contents e.call
contents_after contents (Write w) = λ d. if d == w.disk then w.text else contents d
contents_after contents entry = contents

abbrev pub contents_of : List Entry → ℕ → List ℕ
contents_of entries = fold contents_after (λ d. []) entries

-- ---- what is there

-- the numbers from 1 to n
abbrev pub numbers_to : ℕ → List ℕ
numbers_to zero = []
numbers_to (suc n) = numbers_to n ++ suc n ∷ []

abbrev pub make_of : Call → Option Make
make_of (CreateVm make disks) = Some make
make_of call = None

abbrev pub want_of : Call → Option DiskWant
want_of (CreateDisk want vm) = Some want
want_of call = None

abbrev pub is_holder : List Entry → ℕ → ℕ → Bool
is_holder entries v d = holds (holder_of entries d)
  where
    holds : Option ℕ → Bool
    holds (Some vm) = vm == v
    holds None = false

-- the disks that are attached to a machine, by number
abbrev pub attached_to : List Entry → ℕ → List ℕ
attached_to entries v = filter (is_holder entries v) (numbers_to (disks_created entries))

abbrev pub mounted_on : List Entry → ℕ → List ℕ
mounted_on entries v = filter (is_disk_mounted entries) (attached_to entries v)

abbrev pub machine_made : List Entry → ℕ → effect.Effect → Make → Machine
machine_made entries v e make = record {
  vm = v;
  agent = e.n;
  owner = e.owner;
  dep = e.dep;
  make = make;
  spec = spec_of entries v;
  running = is_running entries v;
  drained = is_drained entries v;
  attached = attached_to entries v;
  mounted = mounted_on entries v;
  silent = is_silent entries v;
}

-- machine v, where it is there
abbrev pub machine_of : List Entry → ℕ → Option Machine
machine_of entries v = if is_vm_there entries v then option_and_then (λ e. option_map (machine_made entries v e) (make_of e.call)) (vm_creation entries v) else None

-- the machines that are there, by number
abbrev pub machines : List Entry → List Machine
machines entries = filter_map (machine_of entries) (numbers_to (vms_created entries))

abbrev pub disk_made : List Entry → ℕ → effect.Effect → DiskWant → Disk
disk_made entries d e want = record { disk = d; tag = e.n; owner = e.owner; want = want; contents = contents_of entries d }

-- disk d, where it is there
abbrev pub disk_of : List Entry → ℕ → Option Disk
disk_of entries d = if is_disk_there entries d then option_and_then (λ e. option_map (disk_made entries d e) (want_of e.call)) (disk_creation entries d) else None

-- the disks that are there, by number
abbrev pub disks : List Entry → List Disk
disks entries = filter_map (disk_of entries) (numbers_to (disks_created entries))
