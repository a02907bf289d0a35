-- What a line asks for, as a value (this project's profile).
use Rattle.std.specs.Prelude.{ℕ, List, Option, Some, None, Result, Ok, Err}
use Rattle.bosh_line_words.specs.Grammar.{fault_of}
use Rattle.bosh_line_words.specs.declared.fault.LineFault.{LineFault}
use Rattle.bosh_line_words.specs.declared.fault.LineFault.TheVariants.{UnknownCommand}
use Rattle.bosh_lines.specs.Lines.{Found, Formed, Refused, found_in}
use Rattle.bosh_lines.specs.declared.command.Command.{Command}

-- the fault of words, and else the command that they are
abbrev pub by_fault : Option LineFault → Option Command → Result Command LineFault
by_fault (Some fault) command = Err fault
by_fault None (Some command) = Ok command
by_fault None None = Err UnknownCommand

abbrev pub meaning : Found → Result Command LineFault
meaning (Refused fault) = Err fault
meaning (Formed form words) = by_fault (fault_of form.places form.options words) (form.command words)

-- what a line asks for, or its fault
abbrev pub asked_by : List ℕ → Result Command LineFault
asked_by line = meaning (found_in line)
