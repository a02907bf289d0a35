-- What the work of tasks is (this project's profile).
use Rattle.std.specs.Prelude.{ℕ, Bool, true, false, eqb, List}
use Rattle.bosh_base.specs.declared.entry.Entry.{Entry}
use Rattle.bosh_base.specs.declared.entry.Entry.TheVariants as entries
use Rattle.bosh_base.specs.declared.moves.Move.{Move}
use Rattle.bosh_base.specs.declared.moves.Move.TheVariants as moves
use Rattle.bosh_history.specs.Words.{is_among}

-- the entry is work of one of the tasks; the end of a call names no task
abbrev pub is_work : List ℕ → Entry → Bool
is_work tasks (entries.Begin it) = is_among eqb it.task tasks
is_work tasks (entries.End it) = true
is_work tasks (entries.UpdBegin it) = is_among eqb it.task tasks
is_work tasks (entries.UpdDone it) = is_among eqb it.task tasks
is_work tasks (entries.Gone it) = is_among eqb it.task tasks
is_work tasks (entries.TaskDone task) = is_among eqb task tasks
is_work tasks (entries.TaskError it) = is_among eqb it.task tasks
is_work tasks entry = false

-- .. noted, a call that is performed, or a halt
abbrev pub is_work_move : List ℕ → Move → Bool
is_work_move tasks (moves.Note entry) = is_work tasks entry
is_work_move tasks (moves.Did did) = true
is_work_move tasks (moves.Halt cause) = true
is_work_move tasks move = false
