-- A template by its text: its parts are read one after another.
use Rattle.std.specs.Prelude.{ℕ, zero, suc, ◌-◌, List, [], ◌∷◌, ◌++◌, length, Option, None, Some, Result, Ok, Err}
use Rattle.bosh_template.specs.Reading.{part_at}
use Rattle.bosh_template.specs.declared.fault.TemplateFault.{TemplateFault}
use Rattle.bosh_template.specs.declared.fault.TemplateFault.TheVariants.{Syntax}
use Rattle.bosh_template.specs.declared.template.Part.{Part}

-- one more part of a text, where one is read; else the place where none is
abbrev pub with_part :
    (List Part → List ℕ → Result (List Part) TemplateFault) → List ℕ → List Part → List ℕ → Option (Part × List ℕ)
    → Result (List Part) TemplateFault
with_part go text parts rest None = Err (Syntax (length text - length rest))
with_part go text parts rest (Some read) = go (parts ++ read.0 ∷ []) read.1

-- the parts of a text, where some are read and a rest is left, in at most so many steps
abbrev pub parts_from : List ℕ → ℕ → List Part → List ℕ → Result (List Part) TemplateFault
parts_from text zero parts rest = Ok parts
parts_from text (suc most) parts [] = Ok parts
parts_from text (suc most) parts (b ∷ rest) =
    with_part (parts_from text most) text parts (b ∷ rest) (part_at (b ∷ rest))

-- the parts of a text, or the first place where none is read
abbrev pub parts_in : List ℕ → Result (List Part) TemplateFault
parts_in text = parts_from text (length text) [] text
