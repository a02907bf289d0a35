-- What is looked for among what is recorded: who has a lock, who uses a link, how many deployments there are, which
-- disks are orphaned. Places of what is not recorded any more are passed over.
use Rattle.std.specs.Prelude.{ℕ, Bool, not, nat_le, ◌&&◌, List, [], ◌∷◌}
use Rattle.std.specs.Prelude.{Option, Some, None, count_by, find, is_some}
use Rattle.std.specs.Prelude.{if◌then◌else◌}
use Rattle.std.specs.Option.{option_eq, option_map, option_or}
use Rattle.std.specs.Str.{bytes_eq}
use Rattle.bosh_base.specs.declared.goal.Goal.{Goal}
use Rattle.bosh_base.specs.declared.link.Joint.{Joint}
use Rattle.bosh_base.specs.declared.link.Tie.{Tie}
use Rattle.bosh_base.specs.declared.snapshot.DepRow.{DepRow}
use Rattle.bosh_base.specs.declared.task.TaskRow.{TaskRow}
use Rattle.bosh_history.specs.Openings.{is_offered_still}

-- ---- locks

-- the task, where it is open and has the lock: that of a deployment, or that of the tasks that delete disks
abbrev pub held_by : Option (List ℕ) → Option TaskRow → Option ℕ
held_by dep (Some row) =
    if not (is_some row.end) && option_eq bytes_eq row.dep dep then Some row.task else None
held_by dep None = None

-- the first open task that has the lock
abbrev pub holder : Option (List ℕ) → List (ℕ × Option TaskRow) → Option ℕ
holder dep [] = None
holder dep (it ∷ others) = option_or (held_by dep it.1) (holder dep others)

-- ---- links

-- the first tie of another deployment whose link the goal withdraws
abbrev pub withdrawn : Goal → Option DepRow → Option Tie
withdrawn goal None = None
withdrawn goal (Some row) =
    if bytes_eq row.dep goal.dep then None else find (λ tie. not (is_offered_still goal tie)) row.goal.ties

abbrev pub consumer_of : Tie → Joint
consumer_of tie = tie.consumer

-- .. by the order of the deployments: who consumes it
abbrev pub first_consumer : {S : Type 0} → Goal → List (S × Option DepRow) → Option Joint
first_consumer goal [] = None
first_consumer goal (it ∷ others) =
    option_or (option_map consumer_of (withdrawn goal it.1)) (first_consumer goal others)

-- ---- places

abbrev pub is_there : {K V : Type 0} → K × Option V → Bool
is_there it = is_some it.1

-- as many deployments are recorded as there may be
abbrev pub is_full : {S : Type 0} → List (S × Option DepRow) → Bool
is_full rows = nat_le 64 (count_by is_there rows)

-- the orphaned disks
abbrev pub loose : {V : Type 0} → List (ℕ × Option V) → List ℕ
loose [] = []
loose (it ∷ others) = if is_some it.1 then it.0 ∷ loose others else loose others
