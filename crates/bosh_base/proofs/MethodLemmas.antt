-- The list of methods.
use Rattle.std.proofs.Common.{◌≡◌, refl, Some}
use Rattle.std.specs.Prelude.{slice_get}
use Rattle.bosh_base.specs.declared.method.Method.{Method}
use Rattle.bosh_base.specs.declared.method.Method.TheVariants.{CreateVm, DeleteVm, HasVm, FindVm, CreateDisk, DeleteDisk, HasDisk, FindDisk, AttachDisk, DetachDisk, GetDisks, Ping, GetState, Apply, Start, Drain, Stop, MountDisk, UnmountDisk, ListDisk, MigrateDisk, CompilePackage}
use Rattle.bosh_base.specs.declared.method.TheConstants.{METHODS}
use Rattle.bosh_base.specs.Method.{place_of}

pub at_its_place : (method : Method) → slice_get METHODS (place_of method) ≡ Some method
at_its_place CreateVm = refl
at_its_place DeleteVm = refl
at_its_place HasVm = refl
at_its_place FindVm = refl
at_its_place CreateDisk = refl
at_its_place DeleteDisk = refl
at_its_place HasDisk = refl
at_its_place FindDisk = refl
at_its_place AttachDisk = refl
at_its_place DetachDisk = refl
at_its_place GetDisks = refl
at_its_place Ping = refl
at_its_place GetState = refl
at_its_place Apply = refl
at_its_place Start = refl
at_its_place Drain = refl
at_its_place Stop = refl
at_its_place MountDisk = refl
at_its_place UnmountDisk = refl
at_its_place ListDisk = refl
at_its_place MigrateDisk = refl
at_its_place CompilePackage = refl
