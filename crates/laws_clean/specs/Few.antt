-- How many calls a clean task made at most, by the facts on it.
use Rattle.std.specs.Prelude.{ℕ, ◌+◌, ◌*◌, length}
use Rattle.bosh_history.specs.Goals.{instances_of}
use Rattle.bosh_history.specs.Known.{Task}
use Rattle.bosh_history.specs.Moments.{Moment}
use Rattle.bosh_history.specs.declared.limits.TheConstants.{MOST_CALLS_OF_A_MACHINE, MOST_CALLS_OF_A_ROW}
use Rattle.laws_counts.specs.Counts.{most_of_slots}
use Rattle.laws_counts.specs.Courses.{Account}

-- so many for each instance of the goal and each obsolete one, what its own compile machines may have had, and so many
-- for each that earlier tasks left
abbrev pub most_of_task : Moment → ℕ → Task → Account → ℕ
most_of_task m t task it =
    MOST_CALLS_OF_A_ROW * (length (instances_of task.goal) + length task.obsolete)
    + most_of_slots m t task
    + MOST_CALLS_OF_A_MACHINE * length it.left_over
