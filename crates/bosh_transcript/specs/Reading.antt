-- Which commands of an input were read.
use Rattle.std.specs.Prelude.{◌≡◌, ◌⊎◌, ℕ, ◌≤◌, Bool, true, false, List, [], ◌++◌, Option, Some, None, drop, length}
use Rattle.bosh_ports.specs.Faults.{Rose}
use Rattle.bosh_input.specs.Commands.{commands}
use Rattle.bosh_input.specs.Ended.{View}
use Rattle.bosh_input.specs.Reading.{Front, HasBegun, IsAtEnd, IsFrontOf, NoneBegun, NoneSettled, Reads}
use Rattle.bosh_input.specs.declared.fault.InputFault.{InputFault}
use Rattle.bosh_input.specs.declared.fault.InputFault.TheVariants as fault
use Rattle.bosh_input.specs.declared.input.Ended.{Ended}
use Rattle.bosh_input.specs.declared.input.Ended.TheVariants.{Whole, Stopped}
use Rattle.bosh_input.specs.declared.request.Request as request

-- no byte was read yet
abbrev pub no_bytes : Front
no_bytes = record { bytes = []; is_over = false; is_ended = false }

-- these are the first commands of the input, whatever follows; the others are those of the bytes from a place on
abbrev pub AreFirst : Front → ℕ → List request.Request → Type 0
AreFirst front at requests =
    (whole : Bool) (input : List ℕ) → IsFrontOf front whole input →
    commands whole input ≡ requests ++ commands whole (drop at input)

-- An event ended the reading after so many commands. No command that was settled is left out. The source failed; or a byte
-- was read past the most that a session takes, or a command has begun after the last.
abbrev pub IsStopped : InputFault → Front → ℕ → ℕ → Type 0
IsStopped fault.Source front at count =
    (front.is_over ≡ false) × NoneSettled front at × (count ≡ 200 → NoneBegun front at)
IsStopped fault.Limit front at count =
    ((front.is_over ≡ true) × NoneSettled front at) ⊎ ((count ≡ 200) × HasBegun front at)
IsStopped fault.Memory front at count = Unit {0}

-- a source fails only where the count of its faults rose
abbrev pub IsCounted : InputFault → ℕ → ℕ → Type 0
IsCounted fault.Source before after = Rose before after
IsCounted fault before after = Unit {0}

-- an input has ended with no further command, or by an event
abbrev pub HasEnded : Ended → Front → ℕ → ℕ → ℕ → ℕ → Type 0
HasEnded Whole front at count before after = IsAtEnd front at
HasEnded (Stopped fault) front at count before after = IsStopped fault front at count × IsCounted fault before after

-- these commands were read of an input, in order, since before its first byte
pub record AreRead {I : Type 0}
    (left : I → Option (List ℕ)) (faults : I → ℕ) (before source : I) (input : View) (requests : List request.Request) :
    Type 0 where
  pub at : ℕ
  pub reads : Reads left faults before source no_bytes input.reader.front
  pub first : AreFirst input.reader.front at requests
  pub few : length requests ≤ 200
  pub goes_on : input.ended ≡ None → (input.reader.at ≡ at) × (input.reader.given ≡ length requests)
  pub ended : (how : Ended) → input.ended ≡ Some how →
      HasEnded how input.reader.front at (length requests) (faults before) (faults source)
