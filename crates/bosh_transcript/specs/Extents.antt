-- What a command is answered with, and which commands it carries out at once (this project's profile).
use Rattle.std.specs.Prelude.{◌≡◌, ℕ, zero, suc, ◌+◌, List, [], ◌∷◌, Result, Ok}
use Rattle.std.specs.List.Sorted.{IsPermutation}
use Rattle.bosh_line_words.specs.declared.fault.LineFault.{LineFault}
use Rattle.bosh_lines.specs.declared.command.Command.{Command}
use Rattle.bosh_lines.specs.declared.command.Command.TheVariants.{Generate, Together}
use Rattle.bosh_transcript.specs.declared.extent.Extent.{Extent}
use Rattle.bosh_transcript.specs.declared.extent.Extent.TheVariants as extent

-- so many numbers from one on
abbrev pub numbers : ℕ → ℕ → List ℕ
numbers from zero = []
numbers from (suc count) = from ∷ numbers (from + 1) count

-- what a line is answered with
abbrev pub extent_of : Result Command LineFault → Extent
extent_of (Ok (Together count)) = extent.Together count
extent_of (Ok (Generate instances)) = extent.Generated instances
extent_of asked = extent.Single

-- how many commands it carries out at once, at most
abbrev pub most_others : Extent → ℕ
most_others (extent.Together count) = count
most_others extent = 0

-- the commands that are answered after its first reply: those that it carries out at once, in some order; a deployment that
-- is made is four commands and a last line
abbrev pub due_later : Extent → ℕ → ℕ → List ℕ
due_later (extent.Together count) number others = numbers (number + 1) others
due_later (extent.Generated instances) number others = number ∷ number ∷ number ∷ number ∷ []
due_later extent.Single number others = []

-- these commands are answered for it, in this order
pub record AreDue (extent : Extent) (number others : ℕ) (commands : List ℕ) : Type 0 where
  pub later : List ℕ
  pub first : commands ≡ number ∷ later
  pub each : IsPermutation later (due_later extent number others)
