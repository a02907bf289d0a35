-- How methods are spelled.
use Rattle.std.specs.Prelude.{ℕ, Bool, true, List, [], ◌∷◌}
use Rattle.bosh_base.specs.declared.method.Method.{Method}
use Rattle.bosh_base.specs.declared.method.Method.TheVariants.{CreateVm, DeleteVm, HasVm, FindVm, CreateDisk, DeleteDisk, HasDisk, FindDisk, AttachDisk, DetachDisk, GetDisks, Ping, GetState, Apply, Start, Drain, Stop, MountDisk, UnmountDisk, ListDisk, MigrateDisk, CompilePackage}
use Rattle.bosh_base.specs.Method.{place_of}
use Rattle.bosh_entry.specs.Reading.{Reader, making, one_of_at}

-- a method, in the order of the list of methods
unfoldable pub method : Method → List ℕ
method m = place_of m ∷ []

unfoldable pub is_method : Method → Bool
is_method x = true

abbrev pub methods : List (Reader Method)
methods =
    making CreateVm
    ∷ making DeleteVm
    ∷ making HasVm
    ∷ making FindVm
    ∷ making CreateDisk
    ∷ making DeleteDisk
    ∷ making HasDisk
    ∷ making FindDisk
    ∷ making AttachDisk
    ∷ making DetachDisk
    ∷ making GetDisks
    ∷ making Ping
    ∷ making GetState
    ∷ making Apply
    ∷ making Start
    ∷ making Drain
    ∷ making Stop
    ∷ making MountDisk
    ∷ making UnmountDisk
    ∷ making ListDisk
    ∷ making MigrateDisk
    ∷ making CompilePackage
    ∷ []

unfoldable pub method_at : Reader Method
method_at = one_of_at methods
