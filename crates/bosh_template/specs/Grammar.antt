-- How a template is written: literal text, and lookups between `<%=` and `%>` (bosh.io/docs/job-templates; the lookups are those of this project's profile).
use Rattle.std.specs.Prelude.{◌≡◌, ◌≢◌, ◌⊎◌, ℕ, ◌<◌, ◌^◌, Bool, true, false, ◌&&◌, ◌||◌, ◌==◌, List, [], ◌∷◌, ◌++◌, length, codes, decimal, replicate, Option, None, Some}
use Rattle.std.specs.Str.{bytes_eq}
use Rattle.bosh_ip.specs.Bytes.{Lacks}
use Rattle.bosh_yaml.specs.Scalar.{is_counting, digits_of}
use Rattle.bosh_template.specs.declared.fault.TemplateFault.{TemplateFault}
use Rattle.bosh_template.specs.declared.fault.TemplateFault.TheVariants.{Syntax, Memory}
use Rattle.bosh_template.specs.declared.template.Part.{Part}
use Rattle.bosh_template.specs.declared.template.Part.TheVariants.{Literal, Own, Linked, OneAddr, AllAddrs, Word}
use Rattle.bosh_template.specs.declared.template.SpecWord.{SpecWord}
use Rattle.bosh_template.specs.declared.template.SpecWord.TheVariants.{Name, Index, Az, Address, Deployment, Bootstrap}

-- double quotes are the byte 34, single ones 39
abbrev pub is_quote : ℕ → Bool
is_quote byte = (byte == 34) || (byte == 39)

-- a text in quotes: no escapes, so the quote itself does not stand in it
pub record SpellsQuoted (text inside : List ℕ) : Type 0 where
  pub quote : ℕ
  pub is_one : is_quote quote ≡ true
  pub lacks : Lacks quote inside
  pub spelled : text ≡ quote ∷ inside ++ quote ∷ []

-- `0`, or an optional minus sign and digits of which the first is not 0
abbrev pub is_integer : List ℕ → Bool
is_integer word = bytes_eq word (codes "0") || is_counting (digits_of word)

-- `true`, `false` or an integer
abbrev pub is_plain : List ℕ → Bool
is_plain word = bytes_eq word (codes "true") || (bytes_eq word (codes "false") || is_integer word)

-- a literal of a lookup: a text in quotes, or `true`, `false` or an integer, which stand for their own text
abbrev pub SpellsLiteral : List ℕ → List ℕ → Type 0
SpellsLiteral text value = SpellsQuoted text value ⊎ ((is_plain text ≡ true) × (text ≡ value))

-- what stands behind the name of a property: nothing, or a comma, one space and a literal
abbrev pub SpellsFallback : List ℕ → Option (List ℕ) → Type 0
SpellsFallback text None = text ≡ []
SpellsFallback text (Some value) = (written : List ℕ) × SpellsLiteral written value × (text ≡ codes ", " ++ written)

-- `p("x")` or `p("x", LIT)`
pub record SpellsProperty (text name : List ℕ) (fallback : Option (List ℕ)) : Type 0 where
  pub quoted : List ℕ
  pub more : List ℕ
  pub is_name : SpellsQuoted quoted name
  pub is_fallback : SpellsFallback more fallback
  pub spelled : text ≡ codes "p(" ++ quoted ++ more ++ codes ")"

-- `link("n")` and what follows it
pub record SpellsLinked (text link rest : List ℕ) : Type 0 where
  pub quoted : List ℕ
  pub is_link : SpellsQuoted quoted link
  pub spelled : text ≡ codes "link(" ++ quoted ++ codes ")." ++ rest

-- `instances[K].address`, where K is a decimal without leading zeros
pub record SpellsOneAddr (text : List ℕ) (index : ℕ) : Type 0 where
  pub fits : index < 2 ^ 32
  pub spelled : text ≡ codes "instances[" ++ decimal index ++ codes "].address"

-- `instances.map(&:address).join("S")`
pub record SpellsAllAddrs (text between : List ℕ) : Type 0 where
  pub quoted : List ℕ
  pub is_between : SpellsQuoted quoted between
  pub spelled : text ≡ codes "instances.map(&:address).join(" ++ quoted ++ codes ")"

abbrev pub word_spelling : SpecWord → List ℕ
word_spelling Name = codes "name"
word_spelling Index = codes "index"
word_spelling Az = codes "az"
word_spelling Address = codes "address"
word_spelling Deployment = codes "deployment"
word_spelling Bootstrap = codes "bootstrap"

-- a lookup, without what it stands between
abbrev pub SpellsLookup : List ℕ → Part → Type 0
SpellsLookup text (Literal bytes) = ⊥
SpellsLookup text (Own name fallback) = SpellsProperty text name fallback
SpellsLookup text (Linked link name fallback) = (rest : List ℕ) × SpellsLinked text link rest × SpellsProperty rest name fallback
SpellsLookup text (OneAddr link index) = (rest : List ℕ) × SpellsLinked text link rest × SpellsOneAddr rest index
SpellsLookup text (AllAddrs link between) = (rest : List ℕ) × SpellsLinked text link rest × SpellsAllAddrs rest between
SpellsLookup text (Word word) = text ≡ codes "spec." ++ word_spelling word

-- a lookup between `<%=` and `%>`, with spaces allowed next to these
pub record SpellsTag (text : List ℕ) (part : Part) : Type 0 where
  pub before : ℕ
  pub lookup : List ℕ
  pub after : ℕ
  pub is_lookup : SpellsLookup lookup part
  pub spelled : text ≡ codes "<%=" ++ replicate before 32 ++ lookup ++ replicate after 32 ++ codes "%>"

-- whether a text begins with `<%`
abbrev pub opens : List ℕ → Bool
opens [] = false
opens (b ∷ []) = false
opens (b ∷ c ∷ text) = (b == 60) && (c == 37)

-- whether a `<%` stands in a text
abbrev pub has_opening : List ℕ → Bool
has_opening [] = false
has_opening (b ∷ text) = opens (b ∷ text) || has_opening text

-- a literal is not empty, and has no `<%`
abbrev pub SpellsPart : List ℕ → Part → Type 0
SpellsPart text (Literal bytes) = (text ≡ bytes) × (bytes ≢ []) × (has_opening bytes ≡ false)
SpellsPart text part = SpellsTag text part

abbrev pub is_literal : Part → Bool
is_literal (Literal bytes) = true
is_literal part = false

-- no two literals stand side by side
abbrev pub begins_literal : List Part → Bool
begins_literal [] = false
begins_literal (part ∷ parts) = is_literal part

-- the text is that of the parts, one after another
abbrev pub Spells : List ℕ → List Part → Type 0
Spells text [] = text ≡ []
Spells text (part ∷ parts) = (front rest : List ℕ) × SpellsPart front part × ((is_literal part && begins_literal parts) ≡ false) × Spells rest parts × (text ≡ front ++ rest)

-- at this place, behind parts that are spelled so, stands a `<%` that begins no lookup
pub record IsSyntax (text : List ℕ) (place : ℕ) : Type 0 where
  pub front : List ℕ
  pub parts : List Part
  pub rest : List ℕ
  pub is_front : Spells front parts
  pub opening : opens rest ≡ true
  pub begins_none : (tag : List ℕ) (part : Part) (more : List ℕ) → SpellsTag tag part → rest ≢ tag ++ more
  pub whole : text ≡ front ++ rest
  pub is_place : place ≡ length front

-- a template is refused at such a place, or for want of memory
abbrev pub IsRefusal : List ℕ → TemplateFault → Type 0
IsRefusal text fault = (fault ≡ Memory) ⊎ ((place : ℕ) × (fault ≡ Syntax place) × IsSyntax text place)
