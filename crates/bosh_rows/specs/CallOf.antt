-- The call that a step is (bosh.io, "CPI API v1" and "Agent API").
use Rattle.std.specs.Prelude.{ℕ, Bool, true, false, not, ◌&&◌, ◌||◌, Option, Some, None, is_some}
use Rattle.std.specs.Option.{option_and_then, option_map}
use Rattle.bosh_base.specs.Call.{method_of}
use Rattle.bosh_base.specs.declared.call.Call.{Call}
use Rattle.bosh_base.specs.declared.call.Call.TheVariants as calls
use Rattle.bosh_base.specs.declared.disk_want.DiskWant.{DiskWant}
use Rattle.bosh_base.specs.declared.goal.GoalRow.{GoalRow}
use Rattle.bosh_base.specs.declared.method.Method.{Method}
use Rattle.bosh_base.specs.declared.method.Method.TheVariants.{CreateVm, DeleteVm, HasVm, FindVm, CreateDisk, FindDisk, AttachDisk, DetachDisk, GetDisks, GetState, Ping, Apply, Start, Drain, Stop, MountDisk, UnmountDisk, ListDisk, MigrateDisk}
use Rattle.bosh_base.specs.declared.row.Doubt.{Doubt}
use Rattle.bosh_base.specs.declared.row.Row.{Row}
use Rattle.bosh_rows.specs.Disks.{active, active_disks}
use Rattle.bosh_rows.specs.NextStep.{next_step}
use Rattle.bosh_rows.specs.declared.step.Step.{Step}

-- a call on the recorded machine
abbrev pub on_machine : Row → (ℕ → Call) → Option Call
on_machine row call = option_map (λ it. call it.vm) row.vm

-- a call on the recorded machine and a disk
abbrev pub on_both : Row → Option ℕ → (ℕ → ℕ → Call) → Option Call
on_both row disk call = option_and_then (λ d. on_machine row (λ v. call v d)) disk

-- a call that asks for the number of the call in doubt
abbrev pub on_doubt : Row → (ℕ → Call) → Option Call
on_doubt row call = option_map (λ it. call it.n) row.doubt

abbrev pub disk_wanted : Option GoalRow → Option DiskWant
disk_wanted want = option_and_then (λ w. w.disk) want

-- the call of a step of an instance, with the machine and the disks of its row; none where the row lacks what it
-- names
abbrev pub call_of : Step → Option GoalRow → Row → Option Call
call_of step want row = by_method step.method
  where
    by_method : Method → Option Call
    by_method CreateVm = option_map (λ w. calls.CreateVm w.make (active_disks row.disks)) want
    by_method DeleteVm = on_machine row calls.DeleteVm
    by_method HasVm = on_machine row calls.HasVm
    by_method FindVm = on_doubt row calls.FindVm
    by_method CreateDisk = option_and_then (λ w. on_machine row (calls.CreateDisk w)) (disk_wanted want)
    by_method FindDisk = on_doubt row calls.FindDisk
    by_method AttachDisk = on_both row step.disk calls.AttachDisk
    by_method DetachDisk = on_both row step.disk calls.DetachDisk
    by_method GetDisks = on_machine row calls.GetDisks
    by_method Ping = on_machine row calls.Ping
    by_method GetState = on_machine row calls.GetState
    by_method Apply = option_and_then (λ w. on_machine row (λ v. calls.Apply v w.spec)) want
    by_method Start = on_machine row calls.Start
    by_method Drain = on_machine row calls.Drain
    by_method Stop = on_machine row calls.Stop
    by_method MountDisk = on_both row step.disk calls.MountDisk
    by_method UnmountDisk = on_both row step.disk calls.UnmountDisk
    by_method ListDisk = on_machine row calls.ListDisk
    by_method MigrateDisk =
        option_and_then (λ old. on_both row step.disk (λ v to. calls.MigrateDisk v old.disk to)) (active row.disks)
    by_method method = None

-- the call has what is wanted in it, a copy of which asks for memory
abbrev pub has_want : Method → Bool
has_want CreateVm = true
has_want CreateDisk = true
has_want Apply = true
has_want method = false

-- the call of the next step
abbrev pub next_call : Option GoalRow → Row → Option Call
next_call want row = option_and_then (λ step. call_of step want row) (next_step want row)

-- ---- which rows have what their steps name

-- a call in doubt other than the creation of a machine
abbrev pub is_doubt_on_machine : Option Doubt → Bool
is_doubt_on_machine (Some it) = by_method (method_of it.call)
  where
    by_method : Method → Bool
    by_method CreateVm = false
    by_method method = true
is_doubt_on_machine None = false

-- A row that is lost, or in doubt of another call than the creation of a machine, has a machine. No history folds
-- another row, but a snapshot can spell one.
abbrev pub has_its_machine : Row → Bool
has_its_machine row = is_some row.vm || (not row.lost && not (is_doubt_on_machine row.doubt))
