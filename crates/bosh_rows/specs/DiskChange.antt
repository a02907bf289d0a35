-- What a call changes in each disk of a row.
use Rattle.std.specs.Prelude.{◌==◌, if◌then◌else◌}
use Rattle.bosh_base.specs.declared.row.DiskRow.{DiskRow}
use Rattle.bosh_base.specs.declared.row.Role.TheVariants as roles
use Rattle.bosh_rows.specs.After.{attach, attached_by, let_go, mount, mounted_by, unmount}
use Rattle.bosh_rows.specs.declared.disk_change.Change.{Change}
use Rattle.bosh_rows.specs.declared.disk_change.Change.TheVariants.{Attach, LetGo, Mount, Unmount, BecomeActive, BecomeOld}
use Rattle.bosh_rows.specs.declared.disk_change.DiskChange.{DiskChange}
use Rattle.bosh_rows.specs.declared.disk_change.DiskChange.TheVariants.{Each, One, AttachedBy, MountedBy}

abbrev pub changed_disk : Change → DiskRow → DiskRow
changed_disk Attach d = attach d
changed_disk LetGo d = let_go d
changed_disk Mount d = mount d
changed_disk Unmount d = unmount d
changed_disk BecomeActive d = record d { role = roles.Active }
changed_disk BecomeOld d = record d { role = roles.Old }

abbrev pub disk_after : DiskChange → DiskRow → DiskRow
disk_after (Each change) d = changed_disk change d
disk_after (One number change) d = if d.disk == number then changed_disk change d else d
disk_after (AttachedBy numbers) d = attached_by numbers.now d
disk_after (MountedBy numbers) d = mounted_by numbers.now d
