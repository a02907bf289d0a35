-- Which disks of a deployment are recorded nowhere (this project's profile; bosh.io, "Cloud Check").
use Rattle.std.specs.Prelude.{ℕ, Bool, true, false, not, ◌==◌, ◌&&◌, ◌||◌, Option, Some, None, List}
use Rattle.std.specs.List.{list_any}
use Rattle.std.specs.Str.{bytes_eq}
use Rattle.bosh_base.specs.declared.call.Call.{Call}
use Rattle.bosh_base.specs.declared.call.Call.TheVariants.{CreateDisk}
use Rattle.bosh_base.specs.declared.machine.Disk.{Disk as CloudDisk}
use Rattle.bosh_base.specs.declared.owner.Owner.{Owner}
use Rattle.bosh_base.specs.declared.owner.Owner.TheVariants.{Instance, Compile, Disk}
use Rattle.bosh_base.specs.declared.row.Doubt.{Doubt}
use Rattle.bosh_base.specs.declared.row.DiskRow.{DiskRow}
use Rattle.bosh_base.specs.declared.row.Row.{Row}
use Rattle.bosh_base.specs.declared.snapshot.Orphan.{Orphan}

-- the owner is an instance of the deployment
abbrev pub is_of : List ℕ → Owner → Bool
is_of dep (Instance inst) = bytes_eq inst.dep dep
is_of dep (Compile task slot) = false
is_of dep (Disk disk) = false

-- the disk is one of several of a row
abbrev pub is_among : ℕ → List DiskRow → Bool
is_among disk rows = list_any (λ d. d.disk == disk) rows

-- the disk is in a row
abbrev pub is_in_row : List Row → ℕ → Bool
is_in_row rows disk = list_any (λ row. is_among disk row.disks) rows

-- the disk is an orphan
abbrev pub is_orphan : List Orphan → ℕ → Bool
is_orphan orphans disk = list_any (λ orphan. orphan.disk == disk) orphans

-- the disk is in a row, or is an orphan
abbrev pub is_recorded : List Row → List Orphan → ℕ → Bool
is_recorded rows orphans disk = is_in_row rows disk || is_orphan orphans disk

abbrev pub creates_disk : Call → Bool
creates_disk (CreateDisk want vm) = true
creates_disk call = false

-- the doubt is one of the creation of a disk, by the call of the number
abbrev pub may_have_made : ℕ → Option Doubt → Bool
may_have_made n None = false
may_have_made n (Some doubt) = creates_disk doubt.call && doubt.n == n

-- a row is in doubt of the creation of a disk by the call of the number
abbrev pub is_in_doubt : List Row → ℕ → Bool
is_in_doubt rows n = list_any (λ row. may_have_made n row.doubt) rows

-- an instance of the deployment owns the disk, which is not recorded, nor made by a call in doubt
abbrev pub is_loose_beside : List ℕ → (ℕ → Bool) → (ℕ → Bool) → CloudDisk → Bool
is_loose_beside dep recorded doubted it = is_of dep it.owner && (not (recorded it.disk) && not (doubted it.tag))

-- the disk is loose beside the rows and orphans of the deployment
abbrev pub is_loose : List ℕ → List Row → List Orphan → CloudDisk → Bool
is_loose dep rows orphans it = is_loose_beside dep (is_recorded rows orphans) (is_in_doubt rows) it
