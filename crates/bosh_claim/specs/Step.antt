-- The next call of an instance, by how it is wanted.
use Rattle.std.specs.Prelude.{Option, None, unwrap_or, if◌then◌else◌}
use Rattle.bosh_base.specs.declared.call.Call.{Call}
use Rattle.bosh_base.specs.declared.goal.GoalRow.{GoalRow}
use Rattle.bosh_base.specs.declared.inst.Inst.{Inst}
use Rattle.bosh_base.specs.declared.row.Row.{Row}
use Rattle.bosh_rows.specs.After.{bare}
use Rattle.bosh_rows.specs.CallOf.{has_its_machine, next_call}
use Rattle.bosh_records.specs.Readers.{row_at}
use Rattle.bosh_records.specs.declared.records.Records.{Records}

-- the call of the next step; a row whose machine is not recorded, though its doubt names one or it is lost, has none
abbrev pub step_on : Option GoalRow → Row → Option Call
step_on want row = if has_its_machine row then next_call want row else None

-- the next call of an instance, by what is recorded of it, or by nothing
abbrev pub step_of : Records → Option GoalRow → Inst → Option Call
step_of records want inst = step_on want (unwrap_or (row_at records inst) (bare inst))
