-- Literals (YAML 1.2, "Literal Style", in this project's profile): lines whose common indentation is removed, joined by LF.
use Rattle.std.specs.Prelude.{ℕ, zero, suc, Bool, true, false, List, [], ◌∷◌, ◌++◌, Option, Some, None, ◌==◌, if◌then◌else◌}
use Rattle.bosh_yaml.specs.declared.literal.Chomping.{Chomping}
use Rattle.bosh_yaml.specs.declared.literal.Chomping.TheVariants.{Clip, Strip}

-- how many spaces stand at the front of a line
abbrev pub indentation : List ℕ → ℕ
indentation [] = 0
indentation (b ∷ bs) = if b == 32 then suc (indentation bs) else 0

-- whether a line holds spaces alone
abbrev pub is_spaces : List ℕ → Bool
is_spaces [] = true
is_spaces (b ∷ bs) = if b == 32 then is_spaces bs else false

-- a line without so many spaces at its front
abbrev pub without_spaces : ℕ → List ℕ → List ℕ
without_spaces zero bytes = bytes
without_spaces (suc n) [] = []
without_spaces (suc n) (b ∷ bs) = if b == 32 then without_spaces n bs else b ∷ bs

abbrev pub line_ends : ℕ → List ℕ
line_ends zero = []
line_ends (suc n) = 10 ∷ line_ends n

abbrev pub line_and_rest : ℕ → List ℕ → List ℕ → List ℕ → List ℕ
line_and_rest ends [] blank filled = blank
line_and_rest ends (b ∷ bs) blank filled = line_ends ends ++ ((b ∷ bs) ++ filled)

-- the lines without their indentation, joined by LF behind so many LFs; empty lines at the end are dropped
abbrev pub body_text : ℕ → ℕ → List (List ℕ) → List ℕ
body_text indent ends [] = []
body_text indent ends (line ∷ lines) =
    line_and_rest ends (without_spaces indent line) (body_text indent (suc ends) lines) (body_text indent 1 lines)

-- `|` adds one LF where there is any line
abbrev pub chomped_text : Chomping → List ℕ → List ℕ
chomped_text Strip text = text
chomped_text Clip [] = []
chomped_text Clip (b ∷ bs) = (b ∷ bs) ++ 10 ∷ []

-- the text of a literal; a line with other content than spaces has fixed the indentation, or there is none
abbrev pub literal_text : Chomping → Option ℕ → List (List ℕ) → List ℕ
literal_text chomping None lines = []
literal_text chomping (Some indent) lines = chomped_text chomping (body_text indent 0 lines)
