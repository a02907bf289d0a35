-- What an input gives, and that its end stays (this project's profile).
use Rattle.std.specs.Prelude.{◌≡◌, ℕ, Option, Some, None, Result, Ok, Err, List, [], ◌&&◌, length, nat_lt, if◌then◌else◌}
use Rattle.bosh_line_words.specs.declared.fault.LineFault.TheVariants.{TooLarge}
use Rattle.bosh_input.specs.Commands.{keeps_file}
use Rattle.bosh_input.specs.Reading.{InputView, IsNext}
use Rattle.bosh_input.specs.declared.fault.InputFault.{InputFault}
use Rattle.bosh_input.specs.declared.input.Ended.{Ended}
use Rattle.bosh_input.specs.declared.input.Ended.TheVariants.{Whole, Stopped}
use Rattle.bosh_input.specs.declared.request.Request.{Request}

-- what was read of an input, and how it came to its end
pub record View : Type 0 where
  pub reader : InputView
  pub ended : Option Ended

-- a command whose block has too many bytes is none, and its block is not kept
abbrev pub bounded_request : Request → Request
bounded_request request = if nat_lt 1048576 (length request.block) then record { asked = Err TooLarge; block = [] } else request

-- the next command was given as the input has it, but for a block of too many bytes
pub record IsGiven (old new : InputView) (given : Request) : Type 0 where
  pub request : Request
  pub is : given ≡ bounded_request request
  pub next : IsNext old new request

-- an answer that ends an input
abbrev pub ended_by : {T : Type 0} → Result (Option T) InputFault → Option Ended
ended_by (Ok (Some request)) = None
ended_by (Ok None) = Some Whole
ended_by (Err fault) = Some (Stopped fault)

-- an input that has ended gives the same answer again, and stays as it is
abbrev pub IsFixed : {T : Type 0} → Option Ended → Result (Option T) InputFault → Type 0 → Type 0
IsFixed None result stays = Unit {0}
IsFixed (Some ended) result stays = (ended_by result ≡ Some ended) × stays
