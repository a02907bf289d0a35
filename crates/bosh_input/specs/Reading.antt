-- What is read of an input for its next command.
use Rattle.std.specs.Prelude.{◌≡◌, ◌≢◌, ◌⊎◌, ℕ, ◌+◌, ◌-◌, ◌<◌, ◌≤◌, Bool, true, false, ◌||◌, List, [], ◌∷◌, ◌++◌, drop, length, slice_index, take, Option, Some, None, Result, Err}
use Rattle.std.specs.Bool.{MatchBool}
use Rattle.bosh_line_words.specs.declared.fault.LineFault.{LineFault}
use Rattle.bosh_lines.specs.declared.command.Command.{Command}
use Rattle.bosh_ports.specs.Faults.{Rose}
use Rattle.bosh_input.specs.Commands.{asked_in, block_ends, block_of, commands, commands_of, keeps_file}
use Rattle.bosh_input.specs.Lines.{has_end, is_no_command, lines}
use Rattle.bosh_input.specs.declared.fault.InputFault.{InputFault}
use Rattle.bosh_input.specs.declared.fault.InputFault.TheVariants.{Source, Limit, Memory}
use Rattle.bosh_input.specs.declared.request.Request.{Request}

-- the bytes that were taken of an input, up to the most that a session takes; whether more were read; and whether the
-- input has ended with them
pub record Front : Type 0 where
  pub bytes : List ℕ
  pub is_over : Bool
  pub is_ended : Bool

-- what was taken, how many bytes of it are given, and how many commands they had
pub record InputView : Type 0 where
  pub front : Front
  pub at : ℕ
  pub given : ℕ

-- what holds of them at every moment
pub record IsInput (front : Front) (at given : ℕ) : Type 0 where
  pub within : at ≤ length front.bytes
  pub few_bytes : length front.bytes ≤ 8388608
  pub few_commands : given ≤ 200
  pub one_end : front.is_ended ≡ true → front.is_over ≡ false

-- These bytes may be what the input has in the end (`whole`), or what it has so far: they go on from those that were taken,
-- and are those where the input has ended.
pub record IsFrontOf (front : Front) (whole : Bool) (bytes : List ℕ) : Type 0 where
  pub future : List ℕ
  pub goes_on : bytes ≡ front.bytes ++ future
  pub ended : front.is_ended ≡ true → (whole ≡ true) × (future ≡ [])

-- Bytes were taken from a source: they are the next of it, but for those past the most that a session takes, which are
-- lost. Nothing is taken once one was lost, or the input has ended.
pub record Reads {S : Type 0} (left : S → Option (List ℕ)) (faults : S → ℕ) (before after : S) (old new : Front) : Type 0 where
  pub more : List ℕ
  pub taken : new.bytes ≡ old.bytes ++ more
  pub lost : List ℕ
  pub told : (was : List ℕ) → left before ≡ Some was → (is : List ℕ) × (left after ≡ Some is) × (was ≡ more ++ (lost ++ is))
  pub over : old.is_over ≡ false → new.is_over ≡ true → (length new.bytes ≡ 8388608) × (lost ≢ [])
  pub not_over : new.is_over ≡ false → (old.is_over ≡ false) × (lost ≡ [])
  pub stays_over : old.is_over ≡ true → (new.is_over ≡ true) × (more ≡ []) × (lost ≡ [])
  pub ended : old.is_ended ≡ false → new.is_ended ≡ true → (was : List ℕ) → left before ≡ Some was → left after ≡ Some []
  pub stays_ended : old.is_ended ≡ true → (new.is_ended ≡ true) × (more ≡ [])
  pub count : faults before ≤ faults after

-- a call fails only where the count of the source's faults rose
abbrev pub FailsByCount : {T : Type 0} → Result T InputFault → ℕ → ℕ → Type 0
FailsByCount (Err Source) before after = Rose before after
FailsByCount answer before after = Unit {0}

-- what holds where an event of the input ends the reading: the source failed, or a byte was read past the most that a
-- session takes
abbrev pub StopsWhere : InputFault → Front → Type 0 → Type 0
StopsWhere Source front holds = (front.is_over ≡ false) × (front.is_ended ≡ false) × holds
StopsWhere Limit front holds = (front.is_over ≡ true) × (front.is_ended ≡ false) × holds
StopsWhere Memory front holds = Unit {0}

-- the byte at a place, or none where the input ends there
abbrev pub IsByteAt : Front → ℕ → Option ℕ → Type 0
IsByteAt front place (Some byte) = (place < length front.bytes) × (slice_index front.bytes place ≡ byte)
IsByteAt front place None = (front.is_ended ≡ true) × (length front.bytes ≡ place)

-- the bytes that were taken, from one place to another
abbrev pub part : Front → ℕ → ℕ → List ℕ
part front from to = take (to - from) (drop from front.bytes)

-- no line ends between two places
pub record IsSeen (front : Front) (from to : ℕ) : Type 0 where
  pub past : from ≤ to
  pub within : to ≤ length front.bytes
  pub clear : has_end (part front from to) ≡ false

-- from one place to another stands the next line, whatever follows
pub record IsLine (front : Front) (from to : ℕ) : Type 0 where
  pub some : from < to
  pub within : to ≤ length front.bytes
  pub cut : (whole : Bool) (input : List ℕ) → IsFrontOf front whole input → lines (drop from input) ≡ part front from to ∷ lines (drop to input)
  pub has_ended : front.is_ended ≡ false → has_end (part front from to) ≡ true

-- the bytes are a line without its end
pub record IsOpenLine (bytes : List ℕ) : Type 0 where
  pub one : lines bytes ≡ bytes ∷ []
  pub no_end : has_end bytes ≡ false

-- the first line is a command
abbrev pub BeginsCommand : List (List ℕ) → Type 0
BeginsCommand [] = ⊥
BeginsCommand (line ∷ more) = is_no_command line ≡ false

-- a command begins at a place, whatever follows
abbrev pub IsCommandAt : Front → ℕ → Type 0
IsCommandAt front at = (input : List ℕ) → IsFrontOf front true input → BeginsCommand (lines (drop at input))

-- no command stands between two places
abbrev pub IsNoneBetween : Front → ℕ → ℕ → Type 0
IsNoneBetween front from to =
    (whole : Bool) (input : List ℕ) → IsFrontOf front whole input → commands whole (drop from input) ≡ commands whole (drop to input)

-- a line that is no command stands between two places
pub record IsPassed (front : Front) (from to : ℕ) : Type 0 where
  pub some : from < to
  pub within : to ≤ length front.bytes
  pub none : IsNoneBetween front from to

-- the bytes up to a command were passed by
pub record IsAtCommand (front : Front) (from to : ℕ) : Type 0 where
  pub ahead : to < length front.bytes
  pub none : IsNoneBetween front from to
  pub begins : IsCommandAt front to

-- the input has ended without a further command
pub record IsAtEnd (front : Front) (from : ℕ) : Type 0 where
  pub is_ended : front.is_ended ≡ true
  pub not_over : front.is_over ≡ false
  pub none : commands true (drop from front.bytes) ≡ []

-- no further command is settled
abbrev pub NoneSettled : Front → ℕ → Type 0
NoneSettled front from = commands false (drop from front.bytes) ≡ []

-- no further command has begun: something may follow with which there is none
abbrev pub NoneBegun : Front → ℕ → Type 0
NoneBegun front from = (input : List ℕ) × IsFrontOf front true input × (commands true (drop from input) ≡ [])

-- a further command has begun: there is one, whatever follows
abbrev pub HasBegun : Front → ℕ → Type 0
HasBegun front from = (input : List ℕ) → IsFrontOf front true input → commands true (drop from input) ≢ []

-- the line of a command stands between two places
pub record IsCommandLine (front : Front) (from to : ℕ) (asked : Result Command LineFault) : Type 0 where
  pub line : IsLine front from to
  pub asks : asked ≡ asked_in (part front from to)

-- a block stands between two places, and ends there, whatever follows
pub record IsBlock (front : Front) (from to : ℕ) (block : List ℕ) : Type 0 where
  pub text : (whole : Bool) (input : List ℕ) → IsFrontOf front whole input → block_of (lines (drop from input)) ≡ block
  pub after : (whole : Bool) (input : List ℕ) → IsFrontOf front whole input → commands_of whole true (lines (drop from input)) ≡ commands whole (drop to input)
  pub ends : (whole : Bool) (input : List ℕ) → IsFrontOf front whole input → (whole || block_ends (lines (drop from input))) ≡ true

-- a block was given, where there is one
abbrev pub IsBlockIf : Bool → Front → ℕ → ℕ → List ℕ → Type 0
IsBlockIf has_block front from to block = MatchBool has_block (IsBlock front from to block) ((block ≡ []) × (from ≡ to))

-- the block of a command was given, where it has one
abbrev pub IsBlockOf : Result Command LineFault → Front → ℕ → ℕ → List ℕ → Type 0
IsBlockOf asked front from to block = IsBlockIf (keeps_file asked) front from to block

-- there is a block, and it has not ended
abbrev pub IsOpenBlockIf : Bool → Front → ℕ → Type 0
IsOpenBlockIf has_block front from = (has_block ≡ true) × (block_ends (lines (drop from front.bytes)) ≡ false)

-- the block of a command has not ended
abbrev pub IsOpenBlock : Result Command LineFault → Front → ℕ → Type 0
IsOpenBlock asked front from = IsOpenBlockIf (keeps_file asked) front from

-- The next command was given: whatever follows, it is the first of the commands that were not given, and the others are
-- those of the bytes that are left.
pub record IsNext (old new : InputView) (request : Request) : Type 0 where
  pub first : (whole : Bool) (input : List ℕ) → IsFrontOf new.front whole input → commands whole (drop old.at input) ≡ request ∷ commands whole (drop new.at input)
  pub number : new.given ≡ old.given + 1

-- The event that ends the reading. No command that is settled was left out. The limit is reached where a byte past the most
-- was read, or where a command begins after the last that a session takes.
abbrev pub IsEvent : InputView → Front → InputFault → Type 0
IsEvent old front Source = (front.is_over ≡ false) × NoneSettled front old.at × (old.given ≡ 200 → NoneBegun front old.at)
IsEvent old front Limit = ((front.is_over ≡ true) × NoneSettled front old.at) ⊎ ((old.given ≡ 200) × HasBegun front old.at)
IsEvent old front Memory = Unit {0}
