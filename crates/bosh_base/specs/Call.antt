-- The method of a call.
use Rattle.bosh_base.specs.declared.call.Call.{Call}
use Rattle.bosh_base.specs.declared.call.Call.TheVariants.{CreateVm, DeleteVm, HasVm, FindVm, CreateDisk, DeleteDisk, HasDisk, FindDisk, AttachDisk, DetachDisk, GetDisks, Ping, GetState, Apply, Start, Drain, Stop, MountDisk, UnmountDisk, ListDisk, MigrateDisk, CompilePackage}
use Rattle.bosh_base.specs.declared.method.Method.{Method}
use Rattle.bosh_base.specs.declared.method.Method.TheVariants as methods

abbrev pub method_of : Call → Method
method_of (CreateVm make disks) = methods.CreateVm
method_of (DeleteVm vm) = methods.DeleteVm
method_of (HasVm vm) = methods.HasVm
method_of (FindVm agent) = methods.FindVm
method_of (CreateDisk want vm) = methods.CreateDisk
method_of (DeleteDisk disk) = methods.DeleteDisk
method_of (HasDisk disk) = methods.HasDisk
method_of (FindDisk tag) = methods.FindDisk
method_of (AttachDisk vm disk) = methods.AttachDisk
method_of (DetachDisk vm disk) = methods.DetachDisk
method_of (GetDisks vm) = methods.GetDisks
method_of (Ping vm) = methods.Ping
method_of (GetState vm) = methods.GetState
method_of (Apply vm spec) = methods.Apply
method_of (Start vm) = methods.Start
method_of (Drain vm) = methods.Drain
method_of (Stop vm) = methods.Stop
method_of (MountDisk vm disk) = methods.MountDisk
method_of (UnmountDisk vm disk) = methods.UnmountDisk
method_of (ListDisk vm) = methods.ListDisk
method_of (MigrateDisk vm from to) = methods.MigrateDisk
method_of (CompilePackage vm work deps) = methods.CompilePackage
