-- What is written of a text that may grow too long.
use Rattle.std.specs.Prelude.{◌≡◌, ◌⊎◌, ◌≤◌, ◌<◌, ℕ, List, ◌++◌, length, Result, Ok, Err}
use Rattle.bosh_template.specs.declared.fault.TemplateFault.{TemplateFault}
use Rattle.bosh_template.specs.declared.fault.TemplateFault.TheVariants.{Memory}
use Rattle.bosh_template.specs.declared.output.Output.{Output}
use Rattle.bosh_template.specs.declared.output.Output.TheVariants.{Within, Over}

-- a text is kept while it is within the limit
abbrev pub Holds : Output → List ℕ → Type 0
Holds (Within bytes) text = (bytes.items ≡ text) × (length text ≤ 1048576)
Holds Over text = 1048576 < length text

-- what stands after a piece is added
abbrev pub Grows : Output → Output → List ℕ → Type 0
Grows old new piece = (text : List ℕ) → Holds old text → Holds new (text ++ piece)

-- a call adds what a part comes to, or answers the part's fault, or wants memory
abbrev pub Adds : {T : Type 0} → Result T TemplateFault → Output → Output → Result (List ℕ) TemplateFault → Type 0
Adds (Ok done) old new (Ok piece) = Grows old new piece
Adds (Ok done) old new (Err fault) = ⊥
Adds (Err fault) old new answer = (fault ≡ Memory) ⊎ (answer ≡ Err fault)
