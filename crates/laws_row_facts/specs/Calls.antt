-- Words on the calls of a row, and what a row was before an open call.
use Rattle.std.specs.Prelude.{Bool, true, false, if◌then◌else◌}
use Rattle.bosh_base.specs.declared.call.Call.{Call}
use Rattle.bosh_base.specs.declared.call.Call.TheVariants.{CreateVm, FindVm, FindDisk, Ping}
use Rattle.bosh_base.specs.declared.row.Row.{Row}
use Rattle.bosh_rows.specs.After.{leaves_doubt}
use Rattle.bosh_rows.specs.Tied.{without_doubt}

-- the call of a row names its machine
abbrev pub names_machine : Call → Bool
names_machine (CreateVm make disks) = false
names_machine (FindVm agent) = false
names_machine (FindDisk tag) = false
names_machine call = true

-- the call asks whether a machine answers
abbrev pub is_ping : Call → Bool
is_ping (Ping vm) = true
is_ping call = false

-- the row before the open call began, as far as its next step could tell
abbrev pub row_before : Call → Row → Row
row_before call row = if leaves_doubt call then without_doubt row else row
