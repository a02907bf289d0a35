-- After a stop, the tasks that it interrupted come to their ends before anything else is made durable
-- (this project's profile).
use Rattle.std.specs.Prelude.{◌≡◌, Bool, true, false, not, ◌||◌, Option, Some, None, List, [], ◌∷◌}
use Rattle.std.specs.List.{list_any}
use Rattle.bosh_base.specs.Cloud.{numbers_to}
use Rattle.bosh_base.specs.declared.entry.Entry.{Entry}
use Rattle.bosh_base.specs.declared.entry.Entry.TheVariants.{TaskError}
use Rattle.bosh_base.specs.declared.failure.Failure.{Failure}
use Rattle.bosh_base.specs.declared.failure.Failure.TheVariants.{Interrupted}
use Rattle.bosh_base.specs.declared.moves.Move.{Move}
use Rattle.bosh_history.specs.Held.{is_open}
use Rattle.bosh_history.specs.Moments.{Opening, Moment, beginning, later, durable_entry}

-- a task that a stop interrupted has no end
abbrev pub is_recovering : Moment → Bool
is_recovering m = list_any (is_open m.known) (numbers_to m.stopped)

abbrev pub is_interruption : Entry → Bool
is_interruption (TaskError e) = is_interrupted e.cause
  where
    is_interrupted : Failure → Bool
    is_interrupted Interrupted = true
    is_interrupted failure = false
is_interruption entry = false

-- the entry may be made durable now: it ends a task as interrupted, or no task that a stop interrupted is left
abbrev pub may_follow : Moment → Entry → Bool
may_follow m entry = not (is_recovering m) || is_interruption entry

abbrev pub follows : Moment → Option Entry → Bool
follows m (Some entry) = may_follow m entry
follows m None = true

abbrev pub IsRecoveredFrom : Moment → List Move → Type 0
IsRecoveredFrom m [] = Unit {0}
IsRecoveredFrom m (move ∷ moves) = (follows m (durable_entry move) ≡ true) × IsRecoveredFrom (later m move) moves

-- no lock of an interrupted task is held when work goes on
abbrev pub IsRecovered : Opening → List Move → Type 0
IsRecovered o moves = IsRecoveredFrom (beginning o) moves
