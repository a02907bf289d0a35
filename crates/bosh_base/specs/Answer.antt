-- Which answers are of which method's kind (bosh.io, "CPI API v1" and "Agent API").
use Rattle.std.specs.Prelude.{Bool, true, false}
use Rattle.bosh_base.specs.declared.answer.Answer.{Answer}
use Rattle.bosh_base.specs.declared.answer.Answer.TheVariants.{Done, Cid, Found, Yes, No, Disks, Facts, Built, Gone, Failed}
use Rattle.bosh_base.specs.declared.method.Method.{Method}
use Rattle.bosh_base.specs.declared.method.Method.TheVariants as methods

-- whether a method can answer so; a failure and what is gone are of every method's kind
abbrev pub is_kind : Method → Answer → Bool
is_kind m Failed = true
is_kind m Gone = true
is_kind methods.CreateVm (Cid number) = true
is_kind methods.CreateDisk (Cid number) = true
is_kind methods.HasVm Yes = true
is_kind methods.HasVm No = true
is_kind methods.HasDisk Yes = true
is_kind methods.HasDisk No = true
is_kind methods.FindVm (Found number) = true
is_kind methods.FindDisk (Found number) = true
is_kind methods.GetDisks (Disks disks) = true
is_kind methods.ListDisk (Disks disks) = true
is_kind methods.GetState (Facts spec running drained) = true
is_kind methods.CompilePackage (Built digest) = true
is_kind methods.DeleteVm Done = true
is_kind methods.DeleteDisk Done = true
is_kind methods.AttachDisk Done = true
is_kind methods.DetachDisk Done = true
is_kind methods.Ping Done = true
is_kind methods.Apply Done = true
is_kind methods.Start Done = true
is_kind methods.Drain Done = true
is_kind methods.Stop Done = true
is_kind methods.MountDisk Done = true
is_kind methods.UnmountDisk Done = true
is_kind methods.MigrateDisk Done = true
is_kind m answer = false
