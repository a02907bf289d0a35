-- The phases of a task, in their order (bosh.io, "Deploying", for the order of compilation and updates).
use Rattle.std.specs.Prelude.{ℕ, Bool, ◌==◌, ◌&&◌, ◌||◌, List, Option, Some, None, fold, is_some, min, nat_lt, not}
use Rattle.std.specs.Prelude.{if◌then◌else◌}
use Rattle.std.specs.Option.{option_map}
use Rattle.bosh_progress.specs.Tree.{marked_in}
use Rattle.bosh_progress.specs.declared.queue.Queue.{Queue}
use Rattle.bosh_progress.specs.declared.rolling.Rolling.{Rolling}
use Rattle.bosh_records.specs.NextKey.{next_key}
use Rattle.bosh_records.specs.declared.records.Records.{Records}
use Rattle.bosh_work.specs.declared.groups.GroupWork.{GroupWork}
use Rattle.bosh_work.specs.declared.work.Work.{Work}
use Rattle.bosh_claim.specs.declared.phase.Phase.{Phase}
use Rattle.bosh_claim.specs.declared.phase.Phase.TheVariants.{Ask, DeleteDisks, Sweep, Compile, Leave, Update}

-- every item is finished
abbrev pub is_finished : Queue → Bool
is_finished queue = marked_in queue.left == 0

-- every update of a group is done
abbrev pub is_updated : Rolling → Bool
is_updated roll = marked_in roll.waiting == 0 && marked_in roll.busy == 0

abbrev pub lesser : Option ℕ → ℕ → ℕ
lesser (Some other) stage = min other stage
lesser None stage = stage

-- the least stage, with one more group
abbrev pub with_group : Option ℕ → GroupWork → Option ℕ
with_group least group = if is_updated group.roll then least else Some (lesser least group.stage)

-- the least stage of the groups that are left
abbrev pub least_stage : List GroupWork → Option ℕ
least_stage groups = fold with_group None groups

-- a compile machine of the task is recorded, or it may make one for a key
abbrev pub has_to_compile : Records → Work → Bool
has_to_compile records work =
    nat_lt 0 work.machines || (nat_lt 0 work.slots && is_some (next_key records work))

-- the first phase in which something is left to do
abbrev pub present : Records → Work → Option Phase
present records work =
    if not (is_finished work.pings.queue) then Some Ask
    else (if not (is_finished work.disks.queue) then Some DeleteDisks
    else (if not (is_finished work.sweep.queue) then Some Sweep
    else (if has_to_compile records work then Some Compile
    else (if not (is_finished work.obsolete.queue) then Some Leave
    else option_map Update (least_stage work.groups)))))
