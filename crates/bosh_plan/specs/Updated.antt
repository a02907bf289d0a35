-- What the end of an update, or the leaving of an instance, changes.
use Rattle.std.specs.Prelude.{List, [], Option, Some, None, map}
use Rattle.std.specs.Option.{option_map_or}
use Rattle.bosh_base.specs.declared.goal.GoalRow.{GoalRow}
use Rattle.bosh_base.specs.declared.inst.Inst.{Inst}
use Rattle.bosh_base.specs.declared.row.DiskRow.{DiskRow}
use Rattle.bosh_base.specs.declared.row.Row.{Row}
use Rattle.bosh_base.specs.declared.snapshot.Orphan.{Orphan}
use Rattle.bosh_rows.specs.After.{left_behind, updated_row}
use Rattle.bosh_records.specs.Readers.{row_at, want_of}
use Rattle.bosh_records.specs.declared.records.Records.{Records}

-- a disk belongs to no instance from now on
abbrev pub orphan_of : Inst → DiskRow → Orphan
orphan_of inst it = record { disk = it.disk; want = it.want; inst = inst; doubt = None }

abbrev pub orphans_of : Inst → List DiskRow → List Orphan
orphans_of inst disks = map (orphan_of inst) disks

-- what is recorded of an instance that is updated as it is wanted
abbrev pub row_by : Option Row → Option GoalRow → Option Row
row_by (Some row) (Some want) = Some (updated_row want row)
row_by row want = None

-- the disks that it leaves behind
abbrev pub left_by : Inst → Option Row → Option GoalRow → List Orphan
left_by inst (Some row) (Some want) = orphans_of inst (left_behind want row)
left_by inst row want = []

abbrev pub row_updated : Records → Inst → Option Row
row_updated records inst = row_by (row_at records inst) (want_of records inst)

abbrev pub left_updated : Records → Inst → List Orphan
left_updated records inst = left_by inst (row_at records inst) (want_of records inst)

-- an instance that leaves leaves all its disks behind
abbrev pub left_gone : Records → Inst → List Orphan
left_gone records inst = option_map_or (λ row. orphans_of inst row.disks) (row_at records inst) []
