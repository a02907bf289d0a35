-- What becomes of the disks of a row once its update is done, or it is dropped.
use Rattle.std.specs.Prelude.{Bool, not, ◌&&◌, is_some, List}
use Rattle.bosh_base.specs.Cloud.{holder_of}
use Rattle.bosh_base.specs.declared.entry.Entry.{Entry}
use Rattle.bosh_base.specs.declared.row.DiskRow.{DiskRow}
use Rattle.bosh_base.specs.declared.row.Row.{Row}
use Rattle.bosh_rows.specs.Tied.{is_disk_kept}

-- the disk is there, was made as the row has it, and is on no machine
abbrev pub is_let_go_of : List Entry → Row → DiskRow → Bool
is_let_go_of effects row d = is_disk_kept effects row d && not (is_some (holder_of effects d.disk))
