-- Whether an update may begin or end, and whether an obsolete instance may leave.
use Rattle.std.specs.Prelude.{ℕ, Bool, true, false, ◌==◌, ◌&&◌, ◌||◌, Option, Some, None, is_none, nat_lt, slice_get}
use Rattle.std.specs.Prelude.{slice_index_or}
use Rattle.std.specs.Prelude.{if◌then◌else◌}
use Rattle.std.specs.Option.{option_and_then, option_map_or}
use Rattle.bosh_base.specs.declared.entry.Update.{Update}
use Rattle.bosh_base.specs.declared.inst.Inst.{Inst}
use Rattle.bosh_progress.specs.Rolling.{are_past, is_allowed}
use Rattle.bosh_progress.specs.declared.rolling.Rolling.{Rolling}
use Rattle.bosh_records.specs.Readers.{want_of, work_at}
use Rattle.bosh_work.specs.declared.part.GroupPlace.{GroupPlace}
use Rattle.bosh_records.specs.declared.records.Records.{Records}
use Rattle.bosh_work.specs.declared.groups.GroupWork.{GroupWork}
use Rattle.bosh_work.specs.declared.work.Work.{Work}
use Rattle.bosh_claim.specs.Beginning.{change_of, is_leaving}
use Rattle.bosh_claim.specs.Phase.{present}
use Rattle.bosh_claim.specs.Step.{step_of}
use Rattle.bosh_claim.specs.declared.phase.Phase.{Phase}
use Rattle.bosh_claim.specs.declared.phase.Phase.TheVariants as phases

-- a phase is that of the groups of a stage
abbrev pub is_stage : Option Phase → ℕ → Bool
is_stage (Some (phases.Update it)) stage = it == stage
is_stage phase stage = false

abbrev pub is_leave : Option Phase → Bool
is_leave (Some phases.Leave) = true
is_leave phase = false

-- a group and a place there, where its stage is the present phase
abbrev pub if_present : Records → Work → ℕ → GroupWork → Option (GroupWork × ℕ)
if_present records work place group = if is_stage (present records work) group.stage then Some (group, place) else None

abbrev pub at_change : Records → Work → GroupPlace → Option (GroupWork × ℕ)
at_change records work change = option_and_then (if_present records work change.place) (slice_get work.groups change.group)

-- the group of a changed instance, and its place there, where the stage of the group is the present phase
abbrev pub of_present : Records → Work → Inst → Option (GroupWork × ℕ)
of_present records work inst = option_and_then (at_change records work) (change_of records inst)

-- no call of the task failed, the update has not begun, and canaries and limit allow it
abbrev pub begins_in : Work → GroupWork × ℕ → Bool
begins_in work it =
    is_none work.failed && (slice_index_or it.0.roll.waiting it.1 false && is_allowed it.0.roll it.1)

-- the turn of the instance's group is now, and its update may begin
abbrev pub begins_now : Records → Inst → Work → Bool
begins_now records inst work = option_map_or (begins_in work) (of_present records work inst) false

abbrev pub begins_update : Records → Update → Bool
begins_update records update = option_map_or (begins_now records update.inst) (work_at records update.task) false

-- it has not begun, or nobody works on it
abbrev pub is_left : Rolling → ℕ → Bool
is_left roll place = slice_index_or roll.waiting place false || slice_index_or roll.idle place false

-- it is a canary, or every canary is done
abbrev pub is_in_turn : Rolling → ℕ → Bool
is_in_turn roll place =
    nat_lt place roll.canaries || (are_past roll.canaries roll.waiting && are_past roll.canaries roll.busy)

-- the update of an instance is done: it is left and in its turn, and has no next call
abbrev pub ends_in : Records → Update → GroupWork × ℕ → Bool
ends_in records update it =
    is_left it.0.roll it.1
    && (is_in_turn it.0.roll it.1
    && is_none (step_of records (want_of records update.inst) update.inst))

abbrev pub ends_now : Records → Update → Work → Bool
ends_now records update work = option_map_or (ends_in records update) (of_present records work update.inst) false

abbrev pub ends_update : Records → Update → Bool
ends_update records update = option_map_or (ends_now records update) (work_at records update.task) false

-- an obsolete instance has nothing left
abbrev pub leaves_in : Records → Update → Work → Bool
leaves_in records update work =
    is_leave (present records work)
    && (is_leaving records work update.inst
    && is_none (step_of records None update.inst))

abbrev pub leaves : Records → Update → Bool
leaves records update = option_map_or (leaves_in records update) (work_at records update.task) false
