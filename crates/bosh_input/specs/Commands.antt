-- The commands of an input (this project's profile).
use Rattle.std.specs.Prelude.{ℕ, Bool, true, false, not, ◌&&◌, ◌||◌, List, [], ◌∷◌, ◌++◌, Result, Ok, Err, if◌then◌else◌}
use Rattle.bosh_line_words.specs.declared.fault.LineFault.{LineFault}
use Rattle.bosh_lines.specs.Meaning.{asked_by}
use Rattle.bosh_lines.specs.declared.command.Command.{Command}
use Rattle.bosh_lines.specs.declared.command.Command.TheVariants.{File}
use Rattle.bosh_input.specs.Lines.{block_text, has_end, is_block_line, is_no_command, lines, text_of}
use Rattle.bosh_input.specs.declared.request.Request.{Request}

-- a file is to be kept
abbrev pub keeps_file : Result Command LineFault → Bool
keeps_file (Ok (File path)) = true
keeps_file other = false

-- what a line of an input asks for
abbrev pub asked_in : List ℕ → Result Command LineFault
asked_in line = asked_by (text_of line)

-- the line has a block
abbrev pub has_block : List ℕ → Bool
has_block line = keeps_file (asked_in line)

-- the block that lines begin with: the lines up to one that does not begin with `|`
abbrev pub block_of : List (List ℕ) → List ℕ
block_of [] = []
block_of (line ∷ more) = if is_block_line line then block_text line ++ block_of more else []

-- a line follows that is not of the block
abbrev pub block_ends : List (List ℕ) → Bool
block_ends [] = false
block_ends (line ∷ more) = if is_block_line line then block_ends more else true

-- the command of a line, by the lines after it
abbrev pub request_of : List ℕ → List (List ℕ) → Request
request_of line after = record { asked = asked_in line; block = if has_block line then block_of after else [] }

-- more bytes cannot change it: its line has ended, and its block where it has one
abbrev pub is_settled : List ℕ → List (List ℕ) → Bool
is_settled line after = has_end line && (not (has_block line) || block_ends after)

-- The commands of lines: all where the input ends with them (`whole`), and else those that are settled. The lines may
-- begin in a block (`in_block`), whose own lines are no commands; nor are empty lines and those that begin with `#`.
abbrev pub commands_of : Bool → Bool → List (List ℕ) → List Request
commands_of whole in_block [] = []
commands_of whole in_block (line ∷ more) =
    if in_block && is_block_line line then commands_of whole true more
    else (if is_no_command line then commands_of whole false more
    else (if whole || is_settled line more then request_of line more ∷ commands_of whole (has_block line) more else []))

-- the commands of an input
abbrev pub commands : Bool → List ℕ → List Request
commands whole bytes = commands_of whole false (lines bytes)
