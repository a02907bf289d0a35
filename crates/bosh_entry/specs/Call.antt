-- How calls are spelled.
use Rattle.std.specs.Prelude.{ℕ, Bool, List, ◌&&◌, ◌++◌}
use Rattle.bosh_base.specs.declared.call.Call.{Call}
use Rattle.bosh_base.specs.declared.call.Call.TheVariants.{CreateVm, DeleteVm, HasVm, FindVm, CreateDisk, DeleteDisk, HasDisk, FindDisk, AttachDisk, DetachDisk, GetDisks, Ping, GetState, Apply, Start, Drain, Stop, MountDisk, UnmountDisk, ListDisk, MigrateDisk, CompilePackage}
use Rattle.bosh_base.specs.Call.{method_of}
use Rattle.bosh_base.specs.declared.method.Method.{Method}
use Rattle.bosh_base.specs.declared.method.Method.TheVariants as methods
use Rattle.bosh_entry.specs.Method.{method, method_at}
use Rattle.bosh_entry.specs.Reading.{◌>>=◌, Reader, making, ◌with◌}
use Rattle.bosh_entry.specs.Number.{number, is_number, number_at}
use Rattle.bosh_entry.specs.Plain.{digest, is_digest, digest_at}
use Rattle.bosh_entry.specs.List.{list, is_list, list_at}
use Rattle.bosh_entry.specs.DiskWant.{disk_want, is_disk_want, disk_want_at}
use Rattle.bosh_entry.specs.Make.{make, is_make, make_at}
use Rattle.bosh_entry.specs.Spec.{spec, is_spec, spec_at}
use Rattle.bosh_entry.specs.Key.{key_work, is_key_work, key_work_at}

-- the fields of a call
unfoldable pub call_fields : Call → List ℕ
call_fields (CreateVm m disks) = make m ++ list number disks
call_fields (DeleteVm vm) = number vm
call_fields (HasVm vm) = number vm
call_fields (FindVm agent) = number agent
call_fields (CreateDisk want vm) = disk_want want ++ number vm
call_fields (DeleteDisk disk) = number disk
call_fields (HasDisk disk) = number disk
call_fields (FindDisk tag) = number tag
call_fields (AttachDisk vm disk) = number vm ++ number disk
call_fields (DetachDisk vm disk) = number vm ++ number disk
call_fields (GetDisks vm) = number vm
call_fields (Ping vm) = number vm
call_fields (GetState vm) = number vm
call_fields (Apply vm s) = number vm ++ spec s
call_fields (Start vm) = number vm
call_fields (Drain vm) = number vm
call_fields (Stop vm) = number vm
call_fields (MountDisk vm disk) = number vm ++ number disk
call_fields (UnmountDisk vm disk) = number vm ++ number disk
call_fields (ListDisk vm) = number vm
call_fields (MigrateDisk vm source target) = number vm ++ number source ++ number target
call_fields (CompilePackage vm work deps) = number vm ++ key_work work ++ list digest deps

-- a call: its method, and its fields
unfoldable pub call : Call → List ℕ
call c = method (method_of c) ++ call_fields c

unfoldable pub is_call : Call → Bool
is_call (CreateVm m disks) = is_make m && is_list is_number disks
is_call (DeleteVm vm) = is_number vm
is_call (HasVm vm) = is_number vm
is_call (FindVm agent) = is_number agent
is_call (CreateDisk want vm) = is_disk_want want && is_number vm
is_call (DeleteDisk disk) = is_number disk
is_call (HasDisk disk) = is_number disk
is_call (FindDisk tag) = is_number tag
is_call (AttachDisk vm disk) = is_number vm && is_number disk
is_call (DetachDisk vm disk) = is_number vm && is_number disk
is_call (GetDisks vm) = is_number vm
is_call (Ping vm) = is_number vm
is_call (GetState vm) = is_number vm
is_call (Apply vm s) = is_number vm && is_spec s
is_call (Start vm) = is_number vm
is_call (Drain vm) = is_number vm
is_call (Stop vm) = is_number vm
is_call (MountDisk vm disk) = is_number vm && is_number disk
is_call (UnmountDisk vm disk) = is_number vm && is_number disk
is_call (ListDisk vm) = is_number vm
is_call (MigrateDisk vm source target) = is_number vm && is_number source && is_number target
is_call (CompilePackage vm work deps) = is_number vm && is_key_work work && is_list is_digest deps

-- the call of a method
unfoldable pub call_of_at : Method → Reader Call
call_of_at methods.CreateVm = making CreateVm with make_at with list_at number_at
call_of_at methods.DeleteVm = making DeleteVm with number_at
call_of_at methods.HasVm = making HasVm with number_at
call_of_at methods.FindVm = making FindVm with number_at
call_of_at methods.CreateDisk = making CreateDisk with disk_want_at with number_at
call_of_at methods.DeleteDisk = making DeleteDisk with number_at
call_of_at methods.HasDisk = making HasDisk with number_at
call_of_at methods.FindDisk = making FindDisk with number_at
call_of_at methods.AttachDisk = making AttachDisk with number_at with number_at
call_of_at methods.DetachDisk = making DetachDisk with number_at with number_at
call_of_at methods.GetDisks = making GetDisks with number_at
call_of_at methods.Ping = making Ping with number_at
call_of_at methods.GetState = making GetState with number_at
call_of_at methods.Apply = making Apply with number_at with spec_at
call_of_at methods.Start = making Start with number_at
call_of_at methods.Drain = making Drain with number_at
call_of_at methods.Stop = making Stop with number_at
call_of_at methods.MountDisk = making MountDisk with number_at with number_at
call_of_at methods.UnmountDisk = making UnmountDisk with number_at with number_at
call_of_at methods.ListDisk = making ListDisk with number_at
call_of_at methods.MigrateDisk = making MigrateDisk with number_at with number_at with number_at
call_of_at methods.CompilePackage =
    making CompilePackage
    with number_at
    with key_work_at
    with list_at digest_at

unfoldable pub call_at : Reader Call
call_at bytes = method_at bytes >>= λ asked. call_of_at asked.0 asked.1
