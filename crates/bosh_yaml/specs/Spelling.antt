-- How a text spells a tree, in the words of the table of forms (this project's profile of YAML 1.2, and RFC 8259 where the first byte is `{`). The tree may repeat keys and have any depth.
use Rattle.std.specs.Prelude.{◌≡◌, ℕ, ℤ, Bool, true, false, List, [], ◌∷◌, ◌++◌, Option, Some, None, Ok, if◌then◌else◌}
use Rattle.serde_json.specs.Data as json
use Rattle.serde_json.specs.Find.{as_i64}
use Rattle.bosh_yaml.specs.Events.{is_marker, is_readable}
use Rattle.bosh_yaml.specs.Json.{has_integers, json_data}
use Rattle.bosh_yaml.specs.Lines.{begins, is_blank, lines_of}
use Rattle.bosh_yaml.specs.SpelledBlock.{Each, IsBlank, SpellsNode}
use Rattle.bosh_yaml.specs.Tree.{Tree, null, boolean, integer, text, list, map, trees_of, fields_of}

-- a text without content is null
pub data SpellsContent : List (List ℕ) → Tree → Type 0 where
  nothing : (lines : List (List ℕ)) → Each IsBlank lines → SpellsContent lines null
  content : (lines : List (List ℕ)) (t : Tree) → SpellsNode 0 lines t → SpellsContent lines t

-- whether the first line that is not blank is the marker `---`
abbrev pub is_marked : List (List ℕ) → Bool
is_marked [] = false
is_marked (line ∷ lines) = if is_blank line then is_marked lines else is_marker line

pub data SpellsLines : List (List ℕ) → Tree → Type 0 where
  marked : (blanks : List (List ℕ)) (marker : List ℕ) (lines : List (List ℕ)) (t : Tree) → Each IsBlank blanks → is_marker marker ≡ true → SpellsContent lines t → SpellsLines (blanks ++ marker ∷ lines) t
  unmarked : (lines : List (List ℕ)) (t : Tree) → is_marked lines ≡ false → SpellsContent lines t → SpellsLines lines t

-- each line is UTF-8 without control bytes but tab
abbrev pub IsReadable : List ℕ → Type 0
IsReadable line = is_readable line ≡ true

-- the tree of JSON data whose numbers are integers within 64 bits
abbrev pub number_tree : Option ℤ → Tree
number_tree None = null
number_tree (Some n) = integer n

abbrev mutual
  pub json_tree : json.Data → Tree
  json_tree json.null = null
  json_tree (json.boolean b) = boolean b
  json_tree (json.number n) = number_tree (as_i64 n)
  json_tree (json.string s) = text s
  json_tree (json.array ds) = list (trees_of (json_items ds))
  json_tree (json.object ms) = map (fields_of (json_members ms))

  pub json_items : json.Items → List Tree
  json_items json.no_items = []
  json_items (json.item d ds) = json_tree d ∷ json_items ds

  pub json_members : json.Members → List (List ℕ × Tree)
  json_members json.no_members = []
  json_members (json.member k d ms) = (k, json_tree d) ∷ json_members ms

-- a text spells its JSON data
abbrev pub SpellsJson : List ℕ → Tree → Type 0
SpellsJson bytes t = (d : json.Data) × (json_data bytes ≡ Ok d) × (has_integers d ≡ true) × (json_tree d ≡ t)

-- where its first byte is `{`, a text is read as JSON
pub data Spells (bytes : List ℕ) (t : Tree) : Type 0 where
  as_json : begins 123 bytes ≡ true → SpellsJson bytes t → Spells bytes t
  as_yaml : begins 123 bytes ≡ false → Each IsReadable (lines_of bytes) → SpellsLines (lines_of bytes) t → Spells bytes t
