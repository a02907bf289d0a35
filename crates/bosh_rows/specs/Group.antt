-- Which of its disks an instance lets go of.
use Rattle.std.specs.Prelude.{Bool, true}
use Rattle.std.specs.Option.{option_copied}
use Rattle.bosh_base.specs.declared.row.DiskRow.{DiskRow}
use Rattle.bosh_rows.specs.Disks.{is_active, is_spare_beside}
use Rattle.bosh_rows.specs.declared.group.Group.{Group}
use Rattle.bosh_rows.specs.declared.group.Group.TheVariants.{Every, Active, Spare}

-- the disk is one of the group
abbrev pub is_in : Group → DiskRow → Bool
is_in Every d = true
is_in Active d = is_active d
is_in (Spare coming) d = is_spare_beside (option_copied coming) d
