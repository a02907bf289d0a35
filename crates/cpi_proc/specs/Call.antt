-- The arguments of calls: an array of the fields of the call, in their order (this project's profile; the methods are those of
-- bosh.io, "CPI API v1" and "Agent API").
use Rattle.std.specs.Prelude.{ℕ, Bool, ◌&&◌, option_map}
use Rattle.bosh_base.specs.declared.call.Call.{Call}
use Rattle.bosh_base.specs.declared.call.Call.TheVariants.{CreateVm, DeleteVm, HasVm, FindVm, CreateDisk, DeleteDisk, HasDisk, FindDisk, AttachDisk, DetachDisk, GetDisks, Ping, GetState, Apply, Start, Drain, Stop, MountDisk, UnmountDisk, ListDisk, MigrateDisk, CompilePackage}
use Rattle.bosh_base.specs.declared.method.Method.{Method}
use Rattle.bosh_base.specs.declared.method.Method.TheVariants as methods
use Rattle.serde_json.specs.Data.{Data}
use Rattle.cpi_wire.specs.Fields.{one_data, one_from, three_data, three_from, two_data, two_from}
use Rattle.cpi_wire.specs.Key.{is_work, work_data, work_from}
use Rattle.cpi_wire.specs.List.{is_list, list_data, list_from}
use Rattle.cpi_wire.specs.Make.{is_make, is_want, make_data, make_from, want_data, want_from}
use Rattle.cpi_wire.specs.Number.{is_number, number_data, number_from}
use Rattle.cpi_wire.specs.Reading.{Reader}
use Rattle.cpi_wire.specs.Spec.{is_spec, spec_data, spec_from}
use Rattle.cpi_wire.specs.Text.{digest_data, digest_from, is_digest}

-- the arguments of a call
unfoldable pub arguments : Call → Data
arguments (CreateVm make disks) = two_data make_data (list_data number_data) make disks
arguments (DeleteVm vm) = one_data number_data vm
arguments (HasVm vm) = one_data number_data vm
arguments (FindVm agent) = one_data number_data agent
arguments (CreateDisk want vm) = two_data want_data number_data want vm
arguments (DeleteDisk disk) = one_data number_data disk
arguments (HasDisk disk) = one_data number_data disk
arguments (FindDisk tag) = one_data number_data tag
arguments (AttachDisk vm disk) = two_data number_data number_data vm disk
arguments (DetachDisk vm disk) = two_data number_data number_data vm disk
arguments (GetDisks vm) = one_data number_data vm
arguments (Ping vm) = one_data number_data vm
arguments (GetState vm) = one_data number_data vm
arguments (Apply vm spec) = two_data number_data spec_data vm spec
arguments (Start vm) = one_data number_data vm
arguments (Drain vm) = one_data number_data vm
arguments (Stop vm) = one_data number_data vm
arguments (MountDisk vm disk) = two_data number_data number_data vm disk
arguments (UnmountDisk vm disk) = two_data number_data number_data vm disk
arguments (ListDisk vm) = one_data number_data vm
arguments (MigrateDisk vm source target) = three_data number_data number_data number_data vm source target
arguments (CompilePackage vm work deps) = three_data number_data work_data (list_data digest_data) vm work deps

-- each field is one of its type
unfoldable pub is_call : Call → Bool
is_call (CreateVm make disks) = is_make make && is_list is_number disks
is_call (DeleteVm vm) = is_number vm
is_call (HasVm vm) = is_number vm
is_call (FindVm agent) = is_number agent
is_call (CreateDisk want vm) = is_want want && is_number vm
is_call (DeleteDisk disk) = is_number disk
is_call (HasDisk disk) = is_number disk
is_call (FindDisk tag) = is_number tag
is_call (AttachDisk vm disk) = is_number vm && is_number disk
is_call (DetachDisk vm disk) = is_number vm && is_number disk
is_call (GetDisks vm) = is_number vm
is_call (Ping vm) = is_number vm
is_call (GetState vm) = is_number vm
is_call (Apply vm spec) = is_number vm && is_spec spec
is_call (Start vm) = is_number vm
is_call (Drain vm) = is_number vm
is_call (Stop vm) = is_number vm
is_call (MountDisk vm disk) = is_number vm && is_number disk
is_call (UnmountDisk vm disk) = is_number vm && is_number disk
is_call (ListDisk vm) = is_number vm
is_call (MigrateDisk vm source target) = is_number vm && is_number source && is_number target
is_call (CompilePackage vm work deps) = is_number vm && is_work work && is_list is_digest deps

-- the call of a method that has these arguments
unfoldable pub call_from : Method → Reader Call
call_from methods.CreateVm d = option_map (λ p. CreateVm p.0 p.1) (two_from make_from (list_from number_from) d)
call_from methods.DeleteVm d = option_map DeleteVm (one_from number_from d)
call_from methods.HasVm d = option_map HasVm (one_from number_from d)
call_from methods.FindVm d = option_map FindVm (one_from number_from d)
call_from methods.CreateDisk d = option_map (λ p. CreateDisk p.0 p.1) (two_from want_from number_from d)
call_from methods.DeleteDisk d = option_map DeleteDisk (one_from number_from d)
call_from methods.HasDisk d = option_map HasDisk (one_from number_from d)
call_from methods.FindDisk d = option_map FindDisk (one_from number_from d)
call_from methods.AttachDisk d = option_map (λ p. AttachDisk p.0 p.1) (two_from number_from number_from d)
call_from methods.DetachDisk d = option_map (λ p. DetachDisk p.0 p.1) (two_from number_from number_from d)
call_from methods.GetDisks d = option_map GetDisks (one_from number_from d)
call_from methods.Ping d = option_map Ping (one_from number_from d)
call_from methods.GetState d = option_map GetState (one_from number_from d)
call_from methods.Apply d = option_map (λ p. Apply p.0 p.1) (two_from number_from spec_from d)
call_from methods.Start d = option_map Start (one_from number_from d)
call_from methods.Drain d = option_map Drain (one_from number_from d)
call_from methods.Stop d = option_map Stop (one_from number_from d)
call_from methods.MountDisk d = option_map (λ p. MountDisk p.0 p.1) (two_from number_from number_from d)
call_from methods.UnmountDisk d = option_map (λ p. UnmountDisk p.0 p.1) (two_from number_from number_from d)
call_from methods.ListDisk d = option_map ListDisk (one_from number_from d)
call_from methods.MigrateDisk d = option_map (λ p. MigrateDisk p.0 p.1 p.2) (three_from number_from number_from number_from d)
call_from methods.CompilePackage d = option_map (λ p. CompilePackage p.0 p.1 p.2) (three_from number_from work_from (list_from digest_from) d)
