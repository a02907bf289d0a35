-- How a lookup is read from the left: each reader gives what stands at the front of a text and what follows it, or nothing. That they read just what the grammar spells is proved.
use Rattle.std.specs.Prelude.{ℕ, suc, ◌^◌, ◌==◌, List, [], ◌∷◌, length, take, drop, codes, Option, None, Some, if◌then◌else◌}
use Rattle.std.specs.Str.{bytes_eq}
use Rattle.bosh_ip.specs.Bytes.{without_leading}
use Rattle.bosh_yaml.specs.Scalar.{number_below}
use Rattle.bosh_template.specs.declared.template.Part.{Part}
use Rattle.bosh_template.specs.declared.template.Part.TheVariants.{Literal, Own, Linked, OneAddr, AllAddrs, Word}
use Rattle.bosh_template.specs.declared.template.SpecWord.{SpecWord}
use Rattle.bosh_template.specs.declared.template.SpecWord.TheVariants.{Name, Index, Az, Address, Deployment, Bootstrap}
use Rattle.bosh_template.specs.Grammar.{is_plain, is_quote, opens, word_spelling}

-- what is read, and what follows it
abbrev pub Read : Type 0 → Type 0
Read A = Option (A × List ℕ)

infixl 10 ◌>>=◌
abbrev pub ◌>>=◌ : {A B : Type 0} → Option A → (A → Option B) → Option B
None >>= next = None
(Some x) >>= next = next x

-- the first of two readings, or else the other
abbrev pub either : {A : Type 0} → Option A → Option A → Option A
either None other = other
either (Some x) other = Some x

-- what follows a word
abbrev pub behind : List ℕ → List ℕ → Option (List ℕ)
behind word text = if bytes_eq (take (length word) text) word then Some (drop (length word) text) else None

abbrev pub with_first : ℕ → Read (List ℕ) → Read (List ℕ)
with_first b None = None
with_first b (Some read) = Some (b ∷ read.0, read.1)

-- what stands before the first such byte, and what follows that byte
abbrev pub cut_at : ℕ → List ℕ → Read (List ℕ)
cut_at byte [] = None
cut_at byte (b ∷ text) = if b == byte then Some ([], text) else with_first b (cut_at byte text)

-- a text in quotes
abbrev pub quoted_at : List ℕ → Read (List ℕ)
quoted_at [] = None
quoted_at (b ∷ text) = if is_quote b then cut_at b text else None

-- a text in quotes and a closing parenthesis
unfoldable pub quoted_end : List ℕ → Read (List ℕ)
quoted_end text = quoted_at text >>= λ inside. behind (codes ")") inside.1 >>= λ rest. Some (inside.0, rest)

-- `true`, `false` or an integer, and a closing parenthesis
unfoldable pub plain_end : List ℕ → Read (List ℕ)
plain_end text = cut_at 41 text >>= λ word. if is_plain word.0 then Some word else None

-- what stands behind the name of a property, and a closing parenthesis
abbrev pub no_fallback : List ℕ → Read (Option (List ℕ))
no_fallback text = behind (codes ")") text >>= λ rest. Some (None, rest)

abbrev pub some_fallback : List ℕ → Read (Option (List ℕ))
some_fallback text = behind (codes ", ") text >>= λ written. either (quoted_end written) (plain_end written) >>= λ value. Some (Some value.0, value.1)

unfoldable pub fallback_end : List ℕ → Read (Option (List ℕ))
fallback_end text = either (no_fallback text) (some_fallback text)

-- the name of a property and its literal
unfoldable pub property_at : List ℕ → Read (List ℕ × Option (List ℕ))
property_at text =
    behind (codes "p(") text >>= λ inside. quoted_at inside >>= λ name. fallback_end name.1 >>= λ fallback. Some ((name.0, fallback.0), fallback.1)

-- a decimal below 2^32 without leading zeros
abbrev pub index_of : List ℕ → Option ℕ
index_of word = if bytes_eq word (codes "0") then Some 0 else number_below (2 ^ 32) word

-- the index of an instance
unfoldable pub one_addr_at : List ℕ → Read ℕ
one_addr_at text =
    behind (codes "instances[") text >>= λ inside. cut_at 93 inside >>= λ word. index_of word.0 >>= λ index. behind (codes ".address") word.1 >>= λ rest. Some (index, rest)

-- what stands between any two addresses
unfoldable pub all_addrs_at : List ℕ → Read (List ℕ)
all_addrs_at text = behind (codes "instances.map(&:address).join(") text >>= λ inside. quoted_end inside

-- what is looked up in a link
abbrev pub as_linked : List ℕ → List ℕ → Read Part
as_linked link text = property_at text >>= λ property. Some (Linked link property.0.0 property.0.1, property.1)

abbrev pub as_one_addr : List ℕ → List ℕ → Read Part
as_one_addr link text = one_addr_at text >>= λ index. Some (OneAddr link index.0, index.1)

abbrev pub as_all_addrs : List ℕ → List ℕ → Read Part
as_all_addrs link text = all_addrs_at text >>= λ between. Some (AllAddrs link between.0, between.1)

unfoldable pub in_link_at : List ℕ → List ℕ → Read Part
in_link_at link text = either (as_linked link text) (either (as_one_addr link text) (as_all_addrs link text))

unfoldable pub linked_at : List ℕ → Read Part
linked_at text = behind (codes "link(") text >>= λ inside. quoted_at inside >>= λ link. behind (codes ").") link.1 >>= λ rest. in_link_at link.0 rest

abbrev pub as_word : SpecWord → List ℕ → Read SpecWord
as_word word text = behind (word_spelling word) text >>= λ rest. Some (word, rest)

-- a fact of the instance
unfoldable pub word_at : List ℕ → Read SpecWord
word_at text = behind (codes "spec.") text >>= λ rest.
    either (as_word Name rest) (either (as_word Index rest) (either (as_word Az rest) (either (as_word Address rest) (either (as_word Deployment rest) (as_word Bootstrap rest)))))

abbrev pub as_own : List ℕ → Read Part
as_own text = property_at text >>= λ property. Some (Own property.0.0 property.0.1, property.1)

abbrev pub as_fact : List ℕ → Read Part
as_fact text = word_at text >>= λ word. Some (Word word.0, word.1)

unfoldable pub lookup_at : List ℕ → Read Part
lookup_at text = either (as_own text) (either (linked_at text) (as_fact text))

-- a lookup between `<%=` and `%>`
unfoldable pub tag_at : List ℕ → Read Part
tag_at text = behind (codes "<%=") text >>= λ inside. lookup_at (without_leading 32 inside) >>= λ lookup.
    behind (codes "%>") (without_leading 32 lookup.1) >>= λ rest. Some (lookup.0, rest)

-- how many bytes stand before the first `<%`
abbrev pub literal_len : List ℕ → ℕ
literal_len [] = 0
literal_len (b ∷ text) = if opens (b ∷ text) then 0 else suc (literal_len text)

-- the part at the front of a text that is not empty
unfoldable pub part_at : List ℕ → Read Part
part_at text = if opens text then tag_at text else Some (Literal (take (literal_len text) text), drop (literal_len text) text)
