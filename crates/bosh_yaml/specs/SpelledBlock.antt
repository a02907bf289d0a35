-- How a node is spelled by lines (this project's profile of YAML 1.2): scalars, flow forms, literals, and block sequences and mappings by their columns. What stands on a line is told from a column on, with the lines that follow.
use Rattle.std.specs.Prelude.{◌≡◌, ℕ, zero, suc, ◌+◌, ◌<◌, ◌≤◌, Bool, true, false, not, ◌||◌, List, [], ◌∷◌, ◌++◌, Option, Some, None, ◌==◌, ◌⊎◌}
use Rattle.std.specs.Str.{is_utf8}
use Rattle.bosh_yaml.specs.declared.bare.Place.TheVariants.{Block}
use Rattle.bosh_yaml.specs.declared.literal.Chomping.{Chomping}
use Rattle.bosh_yaml.specs.declared.literal.Chomping.TheVariants.{Clip, Strip}
use Rattle.bosh_yaml.specs.declared.word.Word.{Word}
use Rattle.bosh_yaml.specs.Lines.{is_blank, is_end}
use Rattle.bosh_yaml.specs.Literal.{indentation, is_spaces, literal_text}
use Rattle.bosh_yaml.specs.Scalar.{leaf_tree}
use Rattle.bosh_yaml.specs.SpelledWord.{SpellsScalar, IsKey}
use Rattle.bosh_yaml.specs.SpelledFlow.{SpellsFlow}
use Rattle.bosh_yaml.specs.Tree.{Tree, null, text, list, map, trees_of, fields_of}
use Rattle.bosh_yaml.specs.Word.{leaf_of}

-- P holds of each element
abbrev pub Each : {A : Type 0} → (A → Type 0) → List A → Type 0
Each P [] = Unit {0}
Each P (x ∷ xs) = P x × Each P xs

abbrev pub spaces : ℕ → List ℕ
spaces zero = []
spaces (suc n) = 32 ∷ spaces n

abbrev pub IsBlank : List ℕ → Type 0
IsBlank line = is_blank line ≡ true

-- what may stand first behind the indentation of a line with content: no space, no tab and no `#`
abbrev pub begins_content : List ℕ → Bool
begins_content [] = false
begins_content (b ∷ bs) = not (b == 32 || (b == 9 || b == 35))

-- a line of a literal that stands behind a dash or a key at this column: spaces alone, or indented by more
abbrev pub IsBodyLine : ℕ → List ℕ → Type 0
IsBodyLine column line = (is_spaces line ≡ true) ⊎ (column < indentation line)

-- the first line with other content than spaces fixes the indentation, and no later one has less
abbrev pub IsWithin : ℕ → List ℕ → Type 0
IsWithin indent line = (is_spaces line ≡ true) ⊎ (indent ≤ indentation line)

abbrev pub IsIndentation : Option ℕ → List (List ℕ) → Type 0
IsIndentation None [] = Unit {0}
IsIndentation (Some indent) [] = ⊥
IsIndentation indent (line ∷ lines) =
    ((is_spaces line ≡ true) × IsIndentation indent lines) ⊎ ((is_spaces line ≡ false) × (indent ≡ Some (indentation line)) × Each (IsWithin (indentation line)) lines)

-- the lines behind a literal are blank, and the first is none of the literal's
abbrev pub IsTail : ℕ → List (List ℕ) → Type 0
IsTail column [] = Unit {0}
IsTail column (line ∷ lines) = (is_spaces line ≡ false) × (indentation line ≤ column) × Each IsBlank (line ∷ lines)

-- behind the `|`
pub data SpellsChomping : List ℕ → Chomping → Type 0 where
  clip : (rest : List ℕ) → is_end rest ≡ true → SpellsChomping rest Clip
  strip : (rest : List ℕ) → is_end rest ≡ true → SpellsChomping (45 ∷ rest) Strip

-- a scalar, a flow form, or a literal, which stands behind a dash or a key at a column
pub data SpellsValue : Option ℕ → List ℕ → List (List ℕ) → Tree → Type 0 where
  scalar : (owner : Option ℕ) (bytes rest : List ℕ) (word : Word) (lines : List (List ℕ))
      → SpellsScalar Block bytes word rest → is_end rest ≡ true → Each IsBlank lines → SpellsValue owner bytes lines (leaf_tree (leaf_of word))
  flow : (owner : Option ℕ) (b : ℕ) (bs rest : List ℕ) (t : Tree) (lines : List (List ℕ))
      → (b == 91 || b == 123) ≡ true → SpellsFlow (b ∷ bs) t rest → is_end rest ≡ true → Each IsBlank lines → SpellsValue owner (b ∷ bs) lines t
  literal : (column : ℕ) (header : List ℕ) (chomping : Chomping) (indent : Option ℕ) (body tail : List (List ℕ))
      → SpellsChomping header chomping → Each (IsBodyLine column) body → IsIndentation indent body → IsTail column tail → is_utf8 (literal_text chomping indent body) ≡ true
      → SpellsValue (Some column) (124 ∷ header) (body ++ tail) (text (literal_text chomping indent body))

mutual
  -- lines that are a node whose first line stands at this column or a greater one
  pub data SpellsNode : ℕ → List (List ℕ) → Tree → Type 0 where
    node : (least column : ℕ) (blanks : List (List ℕ)) (bytes : List ℕ) (lines : List (List ℕ)) (t : Tree)
        → Each IsBlank blanks → least ≤ column → begins_content bytes ≡ true → SpellsAt None column bytes lines t → SpellsNode least (blanks ++ (spaces column ++ bytes) ∷ lines) t

  -- what stands on a line from a column on, and the lines that follow, are a node
  pub data SpellsAt : Option ℕ → ℕ → List ℕ → List (List ℕ) → Tree → Type 0 where
    value : (owner : Option ℕ) (column : ℕ) (bytes : List ℕ) (lines : List (List ℕ)) (t : Tree) → SpellsValue owner bytes lines t → SpellsAt owner column bytes lines t
    sequence : (owner : Option ℕ) (column : ℕ) (bytes : List ℕ) (lines : List (List ℕ)) (ts : List Tree) → SpellsItems column bytes lines ts → SpellsAt owner column bytes lines (list (trees_of ts))
    mapping : (owner : Option ℕ) (column : ℕ) (bytes : List ℕ) (lines : List (List ℕ)) (ps : List (List ℕ × Tree)) → SpellsEntries column bytes lines ps → SpellsAt owner column bytes lines (map (fields_of ps))

  -- a sequence at a column: one or more dashes there, each with its item
  pub data SpellsItems : ℕ → List ℕ → List (List ℕ) → List Tree → Type 0 where
    last_item : (column : ℕ) (rest : List ℕ) (lines : List (List ℕ)) (t : Tree) → SpellsItem column rest lines t → SpellsItems column (45 ∷ rest) lines (t ∷ [])
    item : (column : ℕ) (rest bytes : List ℕ) (inner lines : List (List ℕ)) (t : Tree) (ts : List Tree)
        → SpellsItem column rest inner t → SpellsItems column bytes lines ts → SpellsItems column (45 ∷ rest) (inner ++ (spaces column ++ bytes) ∷ lines) (t ∷ ts)

  -- behind a dash: the line's end, and then nothing or a node at a greater column; or spaces and what stands at its own column
  pub data SpellsItem : ℕ → List ℕ → List (List ℕ) → Tree → Type 0 where
    null_item : (column : ℕ) (rest : List ℕ) (lines : List (List ℕ)) → is_end rest ≡ true → Each IsBlank lines → SpellsItem column rest lines null
    item_below : (column : ℕ) (rest : List ℕ) (lines : List (List ℕ)) (t : Tree) → is_end rest ≡ true → SpellsNode (column + 1) lines t → SpellsItem column rest lines t
    item_beside : (column gap : ℕ) (bytes : List ℕ) (lines : List (List ℕ)) (t : Tree) → SpellsAt (Some column) (column + 1 + suc gap) bytes lines t → SpellsItem column (spaces (suc gap) ++ bytes) lines t

  -- a mapping at a column: one or more keys there, each with `:` and its value
  pub data SpellsEntries : ℕ → List ℕ → List (List ℕ) → List (List ℕ × Tree) → Type 0 where
    last_entry : (column : ℕ) (bytes rest : List ℕ) (word : Word) (key : List ℕ) (lines : List (List ℕ)) (t : Tree)
        → SpellsScalar Block bytes word (58 ∷ rest) → IsKey word key → SpellsEntry column rest lines t → SpellsEntries column bytes lines ((key, t) ∷ [])
    entry : (column : ℕ) (bytes rest next : List ℕ) (word : Word) (key : List ℕ) (inner lines : List (List ℕ)) (t : Tree) (ps : List (List ℕ × Tree))
        → SpellsScalar Block bytes word (58 ∷ rest) → IsKey word key → SpellsEntry column rest inner t
        → begins_content next ≡ true → SpellsEntries column next lines ps → SpellsEntries column bytes (inner ++ (spaces column ++ next) ∷ lines) ((key, t) ∷ ps)

  -- behind a key and its `:`: the line's end, and then nothing, a node at a greater column or a sequence at the same; or spaces and a value on the line
  pub data SpellsEntry : ℕ → List ℕ → List (List ℕ) → Tree → Type 0 where
    null_value : (column : ℕ) (rest : List ℕ) (lines : List (List ℕ)) → is_end rest ≡ true → Each IsBlank lines → SpellsEntry column rest lines null
    value_below : (column : ℕ) (rest : List ℕ) (lines : List (List ℕ)) (t : Tree) → is_end rest ≡ true → SpellsNode (column + 1) lines t → SpellsEntry column rest lines t
    items_level : (column : ℕ) (rest bytes : List ℕ) (blanks lines : List (List ℕ)) (ts : List Tree)
        → is_end rest ≡ true → Each IsBlank blanks → SpellsItems column bytes lines ts → SpellsEntry column rest (blanks ++ (spaces column ++ bytes) ∷ lines) (list (trees_of ts))
    value_beside : (column gap : ℕ) (bytes : List ℕ) (lines : List (List ℕ)) (t : Tree) → SpellsValue (Some column) bytes lines t → SpellsEntry column (spaces (suc gap) ++ bytes) lines t
