-- What the agent of a machine answers, and what its calls change (bosh.io, "Agent API", in this project's profile).
use Rattle.std.specs.Prelude.{◌≡◌, ℕ, Bool, true, false, not, ◌&&◌, ◌||◌, Option, Some, None, is_some, List, [], if◌then◌else◌, IsTrue}
use Rattle.std.specs.Option.{option_map}
use Rattle.bosh_base.specs.CallStep.{unless_gone}
use Rattle.bosh_base.specs.declared.answer.Answer.{Answer}
use Rattle.bosh_base.specs.declared.answer.Answer.TheVariants as answers
use Rattle.bosh_base.specs.declared.call.Call.{Call}
use Rattle.bosh_base.specs.declared.call.Call.TheVariants.{Ping, GetState, Apply, Start, Drain, Stop, MountDisk, UnmountDisk, ListDisk, MigrateDisk, CompilePackage}
use Rattle.bosh_base.specs.declared.digest.Digest.{Digest}
use Rattle.bosh_base.specs.declared.key.KeyWork.{KeyWork}
use Rattle.bosh_base.specs.declared.machine.Disk.{Disk}
use Rattle.bosh_base.specs.declared.machine.Machine.{Machine}
use Rattle.bosh_agent.specs.Numbers.{has, with_number, without_number}
use Rattle.bosh_agent.specs.Slots.{at, with_slot}

-- the machine that a call to an agent names
abbrev pub vm_of : Call → Option ℕ
vm_of (Ping vm) = Some vm
vm_of (GetState vm) = Some vm
vm_of (Apply vm spec) = Some vm
vm_of (Start vm) = Some vm
vm_of (Drain vm) = Some vm
vm_of (Stop vm) = Some vm
vm_of (MountDisk vm disk) = Some vm
vm_of (UnmountDisk vm disk) = Some vm
vm_of (ListDisk vm) = Some vm
vm_of (MigrateDisk vm from to) = Some vm
vm_of (CompilePackage vm work deps) = Some vm
vm_of call = None

-- the disks that a call names are where it needs them
abbrev pub has_disks : Machine → Call → Bool
has_disks machine (MountDisk vm disk) = has disk machine.attached
has_disks machine (UnmountDisk vm disk) = has disk machine.attached
has_disks machine (MigrateDisk vm from to) = has from machine.mounted && has to machine.mounted
has_disks machine call = true

-- the agent can do the call: it is not silent, and the disks are where they have to be
abbrev pub can_act : Machine → Call → Bool
can_act machine call = not machine.silent && has_disks machine call

-- what a call that it can do answers; `built` is what a compilation gives
abbrev pub answer_by_call : (KeyWork → List Digest → Digest) → Machine → Call → Answer
answer_by_call built machine (GetState vm) = answers.Facts machine.spec machine.running machine.drained
answer_by_call built machine (ListDisk vm) = answers.Disks machine.mounted
answer_by_call built machine (CompilePackage vm work deps) = answers.Built (built work deps)
answer_by_call built machine call = answers.Done

abbrev pub agent_answer : (KeyWork → List Digest → Digest) → Machine → Call → Answer
agent_answer built machine call = unless_gone (can_act machine call) (answer_by_call built machine call)

-- the machine after a call that the agent did
abbrev pub machine_by_call : Machine → Call → Machine
machine_by_call machine (Apply vm spec) = record machine { spec = Some spec }
machine_by_call machine (Start vm) = record machine { running = true; drained = false }
machine_by_call machine (Drain vm) = record machine { drained = true }
machine_by_call machine (Stop vm) = record machine { running = false }
machine_by_call machine (MountDisk vm disk) = record machine { mounted = with_number disk machine.mounted }
machine_by_call machine (UnmountDisk vm disk) = record machine { mounted = without_number disk machine.mounted }
machine_by_call machine call = machine

-- the contents of a disk, empty where it is not there
abbrev pub contents_in : List (Option Disk) → ℕ → List ℕ
contents_in disks number = contents (at disks number)
  where
    contents : Option Disk → List ℕ
    contents (Some disk) = disk.contents
    contents None = []

-- the disk with these contents
abbrev pub filled : List ℕ → Disk → Disk
filled text disk = record disk { contents = text }

-- the disks where that of a number has these contents
abbrev pub with_contents : List (Option Disk) → ℕ → List ℕ → List (Option Disk)
with_contents disks number text = with_slot disks number (option_map (filled text) (at disks number))

-- the disks after a call that the agent did: a migration gives one disk the contents of another
abbrev pub disks_by_call : List (Option Disk) → Call → List (Option Disk)
disks_by_call disks (MigrateDisk vm from to) = with_contents disks to (contents_in disks from)
disks_by_call disks call = disks

-- the machine and the disks after a call: nothing changes where the agent cannot do it
abbrev pub machine_after : Machine → Call → Machine
machine_after machine call = if can_act machine call then machine_by_call machine call else machine

abbrev pub disks_after : Machine → List (Option Disk) → Call → List (Option Disk)
disks_after machine disks call = if can_act machine call then disks_by_call disks call else disks

-- the call is one to the agent of this machine
abbrev pub IsFor : Machine → Call → Type 0
IsFor machine call = vm_of call ≡ Some machine.vm

-- the disks that a machine lists are there
abbrev pub HasDisks : Machine → List (Option Disk) → Type 0
HasDisks machine disks = (number : ℕ) → IsTrue (has number machine.attached || has number machine.mounted) → IsTrue (is_some (at disks number))
