-- A task that is reported done left what it was to leave, at the move that reports it (this project's profile).
use Rattle.std.specs.Prelude.{Bool, true, Option, Some, List}
use Rattle.bosh_base.specs.declared.entry.Entry.{Entry}
use Rattle.bosh_base.specs.declared.entry.Entry.TheVariants as entries
use Rattle.bosh_base.specs.declared.moves.Move.{Move}
use Rattle.bosh_history.specs.Each.{EachMove}
use Rattle.bosh_history.specs.Exact.{is_exact}
use Rattle.bosh_history.specs.Moments.{Opening, Moment, beginning, later, durable_entry}

-- where the entry reports a task done, the task is exact at the moment
abbrev pub is_exact_by : Moment → Option Entry → Bool
is_exact_by m (Some (entries.TaskDone t)) = is_exact m t
is_exact_by m entry = true

-- the move makes durable that a task is done, by a note or by a stop that kept it, and then the task is exact
abbrev pub is_done_exactly : Moment → Move → Bool
is_done_exactly m move = is_exact_by (later m move) (durable_entry move)

-- each task that is reported done left what it was to leave
abbrev pub AreDoneExactly : Opening → List Move → Type 0
AreDoneExactly o moves = EachMove is_done_exactly (beginning o) moves
