-- The lines that were carried out and wait for an append or a call, which they let fail or at which they stop the director
-- (this project's profile). Each names one, and is obeyed there; of several that name the same the first that was set is.
use Rattle.std.specs.Prelude.{◌&&◌, ◌||◌, ◌==◌, ◌-◌, ℕ, Bool, true, false, not, if◌then◌else◌}
use Rattle.std.specs.Prelude.{List, [], ◌++◌, filter, map, Option, Some, None, Result, Ok, Err}
use Rattle.std.specs.List.{list_any}
use Rattle.std.specs.Option.{option_map, option_to_list}
use Rattle.bosh_base.specs.Call.{method_of}
use Rattle.bosh_base.specs.declared.entry.Begin.{Begin}
use Rattle.bosh_due.specs.HaltedBy.{HaltedBy}
use Rattle.bosh_fates.specs.Fates.{is_whose, matches}
use Rattle.bosh_base.specs.contracts.method.MethodPartialEq.TheImpl as method_test
use Rattle.bosh_line_words.specs.declared.fault.LineFault.{LineFault}
use Rattle.bosh_lines.specs.declared.command.Command.{Command}
use Rattle.bosh_lines.specs.declared.command.Command.TheVariants as commands
use Rattle.bosh_lines.specs.declared.command.StopCall.{StopCall}

-- a line that was carried out, and names an append or a call behind it
pub record WaitingLine : Type 0 where
  pub command : Command
  -- how many of those that it waits for are left up to the one that it names, that one included
  pub left : ℕ

-- what is known of the lines between two moves
pub record Waits : Type 0 where
  -- those that wait, in the order in which they were set
  pub lines : List WaitingLine
  -- what halted the director, where it has not started since
  pub halted_by : HaltedBy

-- which append or call a line names, from 1 on
abbrev pub named_by : Command → Option ℕ
named_by (commands.FailStore how appends) = Some appends
named_by (commands.StopStore when appends) = Some appends
named_by (commands.FailCall doom) = Some doom.calls
named_by (commands.StopCall stop) = Some stop.calls
named_by command = None

-- what waits once a line is carried out
abbrev pub waiting_by : Result Command LineFault → List WaitingLine
waiting_by (Ok command) =
    option_to_list (option_map (λ left. record { command = command; left = left }) (named_by command))
waiting_by (Err fault) = []

-- .. beside the others
abbrev pub with_line : Result Command LineFault → Waits → Waits
with_line asked was = record was { lines = was.lines ++ waiting_by asked }

-- ---- what a line waits for

-- it lets an append to the director's store fail
abbrev pub fails_append : Command → Bool
fails_append (commands.FailStore how appends) = true
fails_append command = false

-- it stops the director at one
abbrev pub stops_append : Command → Bool
stops_append (commands.StopStore when appends) = true
stops_append command = false

-- it waits for such appends
abbrev pub is_of_appends : Command → Bool
is_of_appends command = fails_append command || stops_append command

-- it lets a call fail that begins so
abbrev pub fails_call : Begin → Command → Bool
fails_call call (commands.FailCall doom) = matches (method_of call.call) call.owner doom
fails_call call command = false

-- it stops the director in a call that begins so
abbrev pub stops_in : Begin → StopCall → Bool
stops_in call it = method_test.ghosts.eq it.method (method_of call.call) && is_whose it.owner call.owner

abbrev pub stops_call : Begin → Command → Bool
stops_call call (commands.StopCall stop) = stops_in call stop
stops_call call command = false

-- it waits for such a call
abbrev pub is_of_call : Begin → Command → Bool
is_of_call call command = fails_call call command || stops_call call command

-- ---- how it waits

-- it is of this kind, and names the next one
abbrev pub names_next : (Command → Bool) → WaitingLine → Bool
names_next waits line = waits line.command && line.left == 1

abbrev pub is_next_named : (Command → Bool) → List WaitingLine → Bool
is_next_named waits lines = list_any (names_next waits) lines

-- one less is left to such a line
abbrev pub nearer : (Command → Bool) → WaitingLine → WaitingLine
nearer waits line = if waits line.command then record line { left = line.left - 1 } else line

-- one more of what they wait for was made: those that named it wait no more
abbrev pub after_one : (Command → Bool) → List WaitingLine → List WaitingLine
after_one waits lines = map (nearer waits) (filter (λ line. not (names_next waits line)) lines)
