-- How many calls a task makes at most where nothing fails and nothing is lost (this project's profile).
use Rattle.std.specs.Prelude.{ℕ, ◌+◌, ◌*◌, Bool, nat_le, length, filter}
use Rattle.bosh_base.specs.declared.entry.TaskOpen.{TaskOpen}
use Rattle.bosh_history.specs.Goals.{rows_of}
use Rattle.bosh_history.specs.Items.{is_in_deployment}
use Rattle.bosh_history.specs.Known.{Known}
use Rattle.bosh_history.specs.Slots.{keys_of}
use Rattle.bosh_history.specs.Words.{holds}
use Rattle.bosh_history.specs.declared.limits.TheConstants.{MOST_CALLS_OF_A_ROW, MOST_CALLS_OF_A_MACHINE}

-- so many for each row of the goal and each obsolete one, and for each key and each compile machine that is left over
abbrev pub budget : Known → TaskOpen → ℕ
budget k o =
    MOST_CALLS_OF_A_ROW * (length (rows_of o.goal) + length o.obsolete)
    + MOST_CALLS_OF_A_MACHINE * length (keys_of o.goal)
    + MOST_CALLS_OF_A_MACHINE * length (filter (is_in_deployment k o.dep) k.machines)

-- the calls of the task are counted, and are within the budget that it had when it opened
abbrev pub is_within_budget : (opened ended : Known) → TaskOpen → Bool
is_within_budget opened ended o = holds (λ n. nat_le n (budget opened o)) (ended.task o.task).calls
