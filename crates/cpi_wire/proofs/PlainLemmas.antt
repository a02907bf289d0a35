-- Plain JSON values are read from their compact text, which is UTF-8.
use Rattle.std.proofs.Common.{◌≡◌, ◌≤◌, ◌<◌, ◌^◌, ℕ, zero, suc, max, Bool, true, false, List, [], ◌∷◌, Some, option_map, option_and_then, IsUtf8, refl, sym, ap, ◌∙◌, arith, append-nil, Greater, nat_cmp}
use Rattle.std.specs.Cmp.Lexicographic.{slice_cmp}
use Rattle.std.specs.Ordering.{match_ordering}
use Rattle.std.proofs.lemmas.Fmt.{IsAscii-decimal}
use Rattle.std.proofs.lemmas.Str.{IsUtf8-append, IsUtf8-from_ascii, IsUtf8-nil}
use Rattle.json.specs.Json as text
use Rattle.json.specs.Lex.{tokens}
use Rattle.json.specs.Print.{quoted, IsNumber}
use Rattle.json.specs.Tree as tree
use Rattle.json.specs.Tree.{json_tokens, HasNumbers, ItemsHaveNumbers, MembersHaveNumbers}
use Rattle.json.proofs.Printed.Decimals.{IsNumber-decimal}
use Rattle.json.proofs.Printed.Tokens.{tokens-print}
use Rattle.json.proofs.Printed.Trees.{ArePrintable-json_tokens, value-json_tokens}
use Rattle.json.proofs.Printed.Utf8.{IsUtf8-are_ascii, IsUtf8-boolean, IsUtf8-quoted}
use Rattle.serde_json.specs.Data as json
use Rattle.serde_json.specs.Read.{max_depth, number_of, of_items, of_json, of_members, read}
use Rattle.serde_json.specs.Written.{comma_if, compact_text, items_outline, items_text, members_outline, members_text, number_text, outline}
use Rattle.serde_json.proofs.Numbers.{number_of-decimal}
use Rattle.serde_json.proofs.Texts.{print-outline}

-- an integer of 64 bits
abbrev pub IsPlainNumber : json.Num → Type 0
IsPlainNumber (json.unsigned n) = n < 2 ^ 64
IsPlainNumber (json.negative z) = ⊥
IsPlainNumber (json.float x) = ⊥

-- each key comes after this one
abbrev pub ComesFirst : List ℕ → json.Members → Type 0
ComesFirst k json.no_members = Unit {0}
ComesFirst k (json.member l e ms) = (slice_cmp nat_cmp l k ≡ Greater) × ComesFirst k ms

-- no floats, texts that are UTF-8, keys in their order, and at most so many arrays and objects one in the other
abbrev mutual
  pub IsPlain : ℕ → json.Data → Type 0
  IsPlain levels json.null = Unit {0}
  IsPlain levels (json.boolean b) = Unit {0}
  IsPlain levels (json.number n) = IsPlainNumber n
  IsPlain levels (json.string s) = IsUtf8 s
  IsPlain zero (json.array ds) = ⊥
  IsPlain (suc levels) (json.array ds) = ArePlain levels ds
  IsPlain zero (json.object ms) = ⊥
  IsPlain (suc levels) (json.object ms) = HavePlain levels ms

  pub ArePlain : ℕ → json.Items → Type 0
  ArePlain levels json.no_items = Unit {0}
  ArePlain levels (json.item d ds) = IsPlain levels d × ArePlain levels ds

  pub HavePlain : ℕ → json.Members → Type 0
  HavePlain levels json.no_members = Unit {0}
  HavePlain levels (json.member k d ms) = IsUtf8 k × ComesFirst k ms × IsPlain levels d × HavePlain levels ms

-- ---- the tokens of its text

number_has : (n : json.Num) → IsPlainNumber n → IsNumber (number_text n)
number_has (json.unsigned n) h = IsNumber-decimal n h
number_has (json.negative z) h = absurd h
number_has (json.float x) h = absurd h

mutual
  has_numbers : (levels : ℕ) (d : json.Data) → IsPlain levels d → HasNumbers (outline d)
  has_numbers levels json.null h = tt
  has_numbers levels (json.boolean b) h = tt
  has_numbers levels (json.number n) h = number_has n h
  has_numbers levels (json.string s) h = tt
  has_numbers zero (json.array ds) h = absurd h
  has_numbers (suc levels) (json.array ds) h = items_have_numbers levels ds h
  has_numbers zero (json.object ms) h = absurd h
  has_numbers (suc levels) (json.object ms) h = members_have_numbers levels ms h

  items_have_numbers : (levels : ℕ) (ds : json.Items) → ArePlain levels ds → ItemsHaveNumbers (items_outline ds)
  items_have_numbers levels json.no_items h = tt
  items_have_numbers levels (json.item d ds) h = (has_numbers levels d h.0, items_have_numbers levels ds h.1)

  members_have_numbers : (levels : ℕ) (ms : json.Members) → HavePlain levels ms → MembersHaveNumbers (members_outline ms)
  members_have_numbers levels json.no_members h = tt
  members_have_numbers levels (json.member k d ms) h = (has_numbers levels d h.2, members_have_numbers levels ms h.3)

text_tokens : (levels : ℕ) (d : json.Data) → IsPlain levels d → tokens (compact_text d) ≡ json_tokens (outline d)
text_tokens levels d h = ap tokens (sym (print-outline d)) ∙ tokens-print (json_tokens (outline d)) (ArePrintable-json_tokens (outline d) (has_numbers levels d h))

-- ---- the data of its outline

-- members put one after another
abbrev put_all : json.Members → json.Members → json.Members
put_all json.no_members found = found
put_all (json.member k d ms) found = put_all ms (json.put k d found)

-- a member whose key comes before all that are put stays first
put_all_first : (k : List ℕ) (d : json.Data) (ms found : json.Members) → ComesFirst k ms → put_all ms (json.member k d found) ≡ json.member k d (put_all ms found)
put_all_first k d json.no_members found b = refl
put_all_first k d (json.member l e ms) found b =
    ap (λ o. put_all ms (match_ordering o (json.member l e (json.member k d found)) (json.member k e found) (json.member k d (json.put l e found)))) b.0
    ∙ put_all_first k d ms (json.put l e found) b.1

put_all_same : (levels : ℕ) (ms : json.Members) → HavePlain levels ms → put_all ms json.no_members ≡ ms
put_all_same levels json.no_members a = refl
put_all_same levels (json.member k d ms) a = put_all_first k d ms json.no_members a.1 ∙ ap (λ more. json.member k d more) (put_all_same levels ms a.3)

number_reads : (n : json.Num) → IsPlainNumber n → number_of (number_text n) ≡ Some n
number_reads (json.unsigned n) h = number_of-decimal n h
number_reads (json.negative z) h = absurd h
number_reads (json.float x) h = absurd h

mutual
  of_outline : (levels : ℕ) (d : json.Data) → IsPlain levels d → of_json (outline d) ≡ Some d
  of_outline levels json.null h = refl
  of_outline levels (json.boolean b) h = refl
  of_outline levels (json.number n) h = ap (option_map json.number) (number_reads n h)
  of_outline levels (json.string s) h = refl
  of_outline zero (json.array ds) h = absurd h
  of_outline (suc levels) (json.array ds) h = ap (option_map json.array) (of_items_outline levels ds h)
  of_outline zero (json.object ms) h = absurd h
  of_outline (suc levels) (json.object ms) h = ap (option_map json.object) (of_members_outline levels ms json.no_members h ∙ ap Some (put_all_same levels ms h))

  of_items_outline : (levels : ℕ) (ds : json.Items) → ArePlain levels ds → of_items (items_outline ds) ≡ Some ds
  of_items_outline levels json.no_items h = refl
  of_items_outline levels (json.item d ds) h =
      ap (option_and_then (λ e. option_map (json.item e) (of_items (items_outline ds)))) (of_outline levels d h.0) ∙ ap (option_map (json.item d)) (of_items_outline levels ds h.1)

  of_members_outline : (levels : ℕ) (ms found : json.Members) → HavePlain levels ms → of_members (members_outline ms) found ≡ Some (put_all ms found)
  of_members_outline levels json.no_members found h = refl
  of_members_outline levels (json.member k d ms) found h =
      ap (option_and_then (λ e. of_members (members_outline ms) (json.put k e found))) (of_outline levels d h.2) ∙ of_members_outline levels ms (json.put k d found) h.3

-- ---- its depth

at_most : (a b c : ℕ) → a ≤ c → b ≤ c → max a b ≤ c
at_most a b c p q = grind arith

mutual
  outline_depth : (levels : ℕ) (d : json.Data) → IsPlain levels d → tree.depth (outline d) ≤ levels
  outline_depth levels json.null h = omega arith
  outline_depth levels (json.boolean b) h = omega arith
  outline_depth levels (json.number n) h = omega arith
  outline_depth levels (json.string s) h = omega arith
  outline_depth zero (json.array ds) h = absurd h
  outline_depth (suc levels) (json.array ds) h = let within = items_outline_depth levels ds h in omega arith
  outline_depth zero (json.object ms) h = absurd h
  outline_depth (suc levels) (json.object ms) h = let within = members_outline_depth levels ms h in omega arith

  items_outline_depth : (levels : ℕ) (ds : json.Items) → ArePlain levels ds → tree.items_depth (items_outline ds) ≤ levels
  items_outline_depth levels json.no_items h = omega arith
  items_outline_depth levels (json.item d ds) h = at_most _ _ levels (outline_depth levels d h.0) (items_outline_depth levels ds h.1)

  members_outline_depth : (levels : ℕ) (ms : json.Members) → HavePlain levels ms → tree.members_depth (members_outline ms) ≤ levels
  members_outline_depth levels json.no_members h = omega arith
  members_outline_depth levels (json.member k d ms) h = at_most _ _ levels (outline_depth levels d h.2) (members_outline_depth levels ms h.3)

pub plain_is_read : (levels : ℕ) (d : json.Data) → IsPlain levels d → levels ≤ 127 → read (compact_text d) ≡ Some d
plain_is_read levels d h shallow =
    let within = outline_depth levels d h in
    ap (λ o. option_and_then of_json (option_and_then (λ p. text.if_last p.0 p.1) o))
    (ap (text.value max_depth) (text_tokens levels d h ∙ sym (append-nil (json_tokens (outline d)))) ∙ value-json_tokens (outline d) max_depth [] (omega arith))
    ∙ of_outline levels d h

-- ---- its text is UTF-8

comma_utf8 : (later : Bool) → IsUtf8 (comma_if later)
comma_utf8 true = IsUtf8-are_ascii (44 ∷ []) refl
comma_utf8 false = IsUtf8-nil

sign_then : (sign : ℕ) (bytes : List ℕ) → IsUtf8 (sign ∷ []) → IsUtf8 bytes → IsUtf8 (sign ∷ bytes)
sign_then sign bytes s u = IsUtf8-append (sign ∷ []) bytes s u

number_utf8 : (n : json.Num) → IsPlainNumber n → IsUtf8 (number_text n)
number_utf8 (json.unsigned n) h = IsUtf8-from_ascii _ (IsAscii-decimal n h)
number_utf8 (json.negative z) h = absurd h
number_utf8 (json.float x) h = absurd h

mutual
  text_utf8 : (levels : ℕ) (d : json.Data) → IsPlain levels d → IsUtf8 (compact_text d)
  text_utf8 levels json.null h = IsUtf8-are_ascii _ refl
  text_utf8 levels (json.boolean b) h = IsUtf8-boolean b
  text_utf8 levels (json.number n) h = number_utf8 n h
  text_utf8 levels (json.string s) h = IsUtf8-quoted s h
  text_utf8 zero (json.array ds) h = absurd h
  text_utf8 (suc levels) (json.array ds) h = sign_then 91 _ (IsUtf8-are_ascii _ refl) (items_utf8 levels false ds h)
  text_utf8 zero (json.object ms) h = absurd h
  text_utf8 (suc levels) (json.object ms) h = sign_then 123 _ (IsUtf8-are_ascii _ refl) (members_utf8 levels false ms h)

  items_utf8 : (levels : ℕ) (later : Bool) (ds : json.Items) → ArePlain levels ds → IsUtf8 (items_text later ds)
  items_utf8 levels later json.no_items h = IsUtf8-are_ascii _ refl
  items_utf8 levels later (json.item d ds) h = IsUtf8-append (comma_if later) _ (comma_utf8 later) (IsUtf8-append (compact_text d) _ (text_utf8 levels d h.0) (items_utf8 levels true ds h.1))

  members_utf8 : (levels : ℕ) (later : Bool) (ms : json.Members) → HavePlain levels ms → IsUtf8 (members_text later ms)
  members_utf8 levels later json.no_members h = IsUtf8-are_ascii _ refl
  members_utf8 levels later (json.member k d ms) h =
      let value = IsUtf8-append (compact_text d) _ (text_utf8 levels d h.2) (members_utf8 levels true ms h.3) in
      IsUtf8-append (comma_if later) _ (comma_utf8 later) (IsUtf8-append (quoted k) _ (IsUtf8-quoted k h.0) (sign_then 58 _ (IsUtf8-are_ascii _ refl) value))

pub plain_is_utf8 : (levels : ℕ) (d : json.Data) → IsPlain levels d → IsUtf8 (compact_text d)
plain_is_utf8 levels d h = text_utf8 levels d h
