-- Tasks that run together, and the moves and entries that end them.
use Rattle.std.specs.Prelude.{ℕ, Option, None, Some}
use Rattle.bosh_base.specs.declared.entry.Entry.{Entry}
use Rattle.bosh_base.specs.declared.entry.Entry.TheVariants as entries
use Rattle.bosh_base.specs.declared.moves.Cause.{Cause}
use Rattle.bosh_base.specs.declared.moves.Move.{Move}
use Rattle.bosh_base.specs.declared.moves.Move.TheVariants as moves
use Rattle.bosh_session.specs.declared.together.Placed as placed
use Rattle.bosh_session.specs.declared.together.Running as running
use Rattle.bosh_transcript.specs.declared.numbered.Numbered as numbered

-- the move is a halt
abbrev pub halt_of : Move → Option Cause
halt_of (moves.Halt cause) = Some cause
halt_of move = None

-- the task that an entry ends
abbrev pub ended_by : Entry → Option ℕ
ended_by (entries.TaskDone task) = Some task
ended_by (entries.TaskError error) = Some error.task
ended_by entry = None

-- the number of a command that was read
abbrev pub number_in : numbered.Numbered → ℕ
number_in it = it.number

-- the number of the command that opened a task
abbrev pub number_of : running.Running → ℕ
number_of it = it.number

abbrev pub running_in : placed.Placed → running.Running
running_in it = it.running
