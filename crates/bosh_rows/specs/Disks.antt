-- The persistent disks of an instance, as they are recorded: which is active, right, spare or coming
-- (bosh.io, "Persistent disks"; that a disk is right by its size and properties is this project's profile).
use Rattle.std.specs.Prelude.{ℕ, Bool, true, false, not, nat_lt, ◌&&◌, ◌||◌, ◌==◌, if◌then◌else◌, Option, Some, None, is_some, List, filter, find, fold, map}
use Rattle.bosh_base.specs.declared.disk_want.DiskWant.{DiskWant}
use Rattle.bosh_base.specs.declared.goal.GoalRow as want
use Rattle.bosh_base.specs.declared.row.DiskRow.{DiskRow}
use Rattle.bosh_base.specs.declared.row.Role.{Role}
use Rattle.bosh_base.specs.declared.row.Role.TheVariants.{Active, New, Old}
use Rattle.bosh_base.specs.declared.state.State.{State}
use Rattle.bosh_base.specs.declared.state.State.TheVariants.{Running, Detached}
use Rattle.bosh_rows.specs.Same.{same_want}

-- ---- what a disk is to its instance

-- it holds the contents
abbrev pub is_active : DiskRow → Bool
is_active d = plays d.role
  where
    plays : Role → Bool
    plays Active = true
    plays role = false

-- the contents are to be moved to it
abbrev pub is_new : DiskRow → Bool
is_new d = plays d.role
  where
    plays : Role → Bool
    plays New = true
    plays role = false

-- the contents were moved from it
abbrev pub is_old : DiskRow → Bool
is_old d = plays d.role
  where
    plays : Role → Bool
    plays Old = true
    plays role = false

-- ---- one of several

-- there is a disk, and it meets the test
abbrev pub meets : (DiskRow → Bool) → Option DiskRow → Bool
meets test (Some d) = test d
meets test None = false

-- the one with the lesser number
abbrev pub lesser : Option DiskRow → DiskRow → Option DiskRow
lesser None d = Some d
lesser (Some c) d = if nat_lt d.disk c.disk then Some d else Some c

-- of those that meet the test, the one with the least number
abbrev pub least : (DiskRow → Bool) → List DiskRow → Option DiskRow
least test disks = fold lesser None (filter test disks)

abbrev pub active : List DiskRow → Option DiskRow
active disks = find is_active disks

-- the number of the active disk, where there is one
abbrev pub active_disks : List DiskRow → List ℕ
active_disks disks = map (λ d. d.disk) (filter is_active disks)

-- ---- as it is wanted

abbrev pub is_running : State → Bool
is_running Running = true
is_running state = false

-- the instance is to have no machine, and keeps its disk
abbrev pub is_detached : State → Bool
is_detached Detached = true
is_detached state = false

-- it has the size and the properties that are wanted
abbrev pub is_right : DiskWant → DiskRow → Bool
is_right wanted d = same_want d.want wanted

-- the new disk that is to take the place of the active one, while that is not right
abbrev pub coming : Option DiskWant → List DiskRow → Option DiskRow
coming (Some wanted) disks =
    if meets (is_right wanted) (active disks) then None else least (λ d. is_new d && is_right wanted d) disks
coming None disks = None

-- it is an old disk, or a new one that is not this one
abbrev pub is_spare_beside : Option DiskRow → DiskRow → Bool
is_spare_beside other d = is_old d || (is_new d && not (meets (λ it. it.disk == d.disk) other))

-- no use is left for it: an old disk, or a new one that takes nobody's place
abbrev pub is_spare : Option DiskWant → List DiskRow → DiskRow → Bool
is_spare wanted disks d = is_spare_beside (coming wanted disks) d

-- where the update of an instance is done it stays with the instance, and else it is orphaned: the active disk stays,
-- where one is wanted or the instance is to be detached
abbrev pub stays : want.GoalRow → DiskRow → Bool
stays wanted d = is_active d && (is_some wanted.disk || is_detached wanted.state)
