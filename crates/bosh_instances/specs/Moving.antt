-- A persistent disk lies in one availability zone, so its instance does not leave it (bosh.io, "Availability zones").
use Rattle.std.specs.Prelude.{ℕ, Bool, true, false, ◌&&◌, not, List, [], ◌∷◌, Option, Some, None, Result, Ok, Err, find, option_map}
use Rattle.std.specs.List.{list_any}
use Rattle.std.specs.Option.{option_or}
use Rattle.std.specs.Str.{bytes_eq}
use Rattle.bosh_base.specs.declared.inst.Inst.{Inst}
use Rattle.bosh_base.specs.declared.row.Role.{Role}
use Rattle.bosh_base.specs.declared.row.Role.TheVariants.{Active, New, Old}
use Rattle.bosh_base.specs.declared.row.Row.{Row}
use Rattle.bosh_manifest.specs.declared.group.Group.{Group}
use Rattle.bosh_wants.specs.Wants.{below}
use Rattle.bosh_wants.specs.Zones.{inst_of, row_of, zone_made, zone_of}
use Rattle.bosh_manifest_names.specs.declared.fault.GoalFault.{GoalFault}
use Rattle.bosh_manifest_names.specs.declared.fault.GoalFault.TheVariants.{DiskInAz}

-- it holds the contents
abbrev pub is_active : Role → Bool
is_active Active = true
is_active New = false
is_active Old = false

abbrev pub has_contents : Row → Bool
has_contents row = list_any (λ disk. is_active disk.role) row.disks

-- whether a recorded zone is another one
abbrev pub differs : List ℕ → Option (List ℕ) → Bool
differs az None = false
differs az (Some recorded) = not (bytes_eq recorded az)

-- whether what is recorded has contents in another zone
abbrev pub would_move : List ℕ → Option Row → Bool
would_move az None = false
would_move az (Some row) = has_contents row && differs az (zone_made row.make)

abbrev pub moves : List ℕ → List Row → Group → ℕ → Bool
moves dep rows group index = would_move (zone_of dep rows group index) (row_of rows (inst_of dep group index))

-- the first instance of a group that would leave the zone of its disk
abbrev pub moved_in : List ℕ → List Row → Group → Option Inst
moved_in dep rows group = option_map (inst_of dep group) (find (moves dep rows group) (below group.instances))

-- the first of all groups
abbrev pub moved : List ℕ → List Row → List Group → Option Inst
moved dep rows [] = None
moved dep rows (group ∷ groups) = option_or (moved_in dep rows group) (moved dep rows groups)

abbrev pub refusal_of : Option Inst → Result Bool GoalFault
refusal_of None = Ok true
refusal_of (Some inst) = Err (DiskInAz inst)

-- none would
abbrev pub disks_stay : List ℕ → List Row → List Group → Result Bool GoalFault
disks_stay dep rows groups = refusal_of (moved dep rows groups)
