-- Canonical data is read from its compact text, which is UTF-8.
use Rattle.std.proofs.Common.{◌≡◌, ◌≤◌, ℕ, suc, Bool, true, false, List, [], ◌∷◌, ℤ, pos, negsuc, Option, Some, None, Ok, option_map, option_and_then, IsUtf8, refl, sym, ap, ◌∙◌, subst, arith, append-nil, FitsSigned, w64}
use Rattle.std.specs.List.Sorted.{IsStrictlySortedBy}
use Rattle.std.specs.Ordering.{match_ordering}
use Rattle.std.proofs.lemmas.Fmt.{IsAscii-decimal, IsAscii-signed}
use Rattle.std.proofs.lemmas.Str.{IsUtf8-append, IsUtf8-from_ascii, IsUtf8-nil, is_utf8-from_IsUtf8}
use Rattle.json.specs.Json as text
use Rattle.json.specs.Lex.{tokens}
use Rattle.json.specs.Print.{quoted, IsNumber}
use Rattle.json.specs.Tree as tree
use Rattle.json.specs.Tree.{json_tokens, HasNumbers, ItemsHaveNumbers, MembersHaveNumbers}
use Rattle.json.proofs.Printed.Decimals.{IsNumber-decimal, IsNumber-signed_decimal}
use Rattle.json.proofs.Printed.Tokens.{tokens-print}
use Rattle.json.proofs.Printed.Trees.{ArePrintable-json_tokens, value-json_tokens}
use Rattle.json.proofs.Printed.Utf8.{IsUtf8-are_ascii, IsUtf8-boolean, IsUtf8-quoted}
use Rattle.serde_json.specs.Data as json
use Rattle.serde_json.specs.Find.{as_i64, of_integer}
use Rattle.serde_json.specs.Read.{max_depth, number_of, of_items, of_json, of_members, read}
use Rattle.serde_json.specs.Written.{comma_if, compact_text, items_outline, items_text, members_outline, members_text, number_text, outline}
use Rattle.serde_json.proofs.Numbers.{number_of-decimal, number_of-negative}
use Rattle.serde_json.proofs.Texts.{print-outline}
use Rattle.bosh_yaml.specs.Json.{json_data}
use Rattle.bosh_yaml.specs.Limits.{depth, depth_all, depth_keyed}
use Rattle.bosh_yaml.specs.Spelling.{json_items, json_members, json_tree, number_tree}
use Rattle.bosh_yaml.specs.Order.{AreInKeyOrder, HaveKeyOrder, IsInKeyOrder}
use Rattle.bosh_yaml.specs.Tree.{trees_of, fields_of}
use Rattle.bosh_yaml.proofs.CanonicalLemmas.{IsCanonical, AreCanonical, HaveCanonical, small}
use Rattle.bosh_yaml.proofs.OrderLemmas.{as_fields, Ascend, IsBelow, less_turns}

-- ---- numbers

number_of-integer : (z : ℤ) → FitsSigned w64 z → number_of (number_text (of_integer z)) ≡ Some (of_integer z)
number_of-integer (pos n) h = let s = small n h in number_of-decimal n (omega arith)
number_of-integer (negsuc n) h = number_of-negative n h.sfits

IsNumber-integer : (z : ℤ) → FitsSigned w64 z → IsNumber (number_text (of_integer z))
IsNumber-integer (pos n) h = let s = small n h in IsNumber-decimal n (omega arith)
IsNumber-integer (negsuc n) h = IsNumber-signed_decimal (negsuc n) h.sfits

IsUtf8-integer : (z : ℤ) → FitsSigned w64 z → IsUtf8 (number_text (of_integer z))
IsUtf8-integer (pos n) h = let s = small n h in IsUtf8-from_ascii _ (IsAscii-decimal n (omega arith))
IsUtf8-integer (negsuc n) h = IsUtf8-from_ascii _ (IsAscii-signed (negsuc n) h.sfits)

-- ---- the tokens of its text

mutual
  has_numbers : (d : json.Data) → IsCanonical d → HasNumbers (outline d)
  has_numbers json.null h = tt
  has_numbers (json.boolean b) h = tt
  has_numbers (json.number n) h = subst (λ m. IsNumber (number_text m)) (sym h.2) (IsNumber-integer h.0 h.1)
  has_numbers (json.string s) h = tt
  has_numbers (json.array ds) h = items_have_numbers ds h
  has_numbers (json.object ms) h = members_have_numbers ms h

  items_have_numbers : (ds : json.Items) → AreCanonical ds → ItemsHaveNumbers (items_outline ds)
  items_have_numbers json.no_items h = tt
  items_have_numbers (json.item d ds) h = (has_numbers d h.0, items_have_numbers ds h.1)

  members_have_numbers : (ms : json.Members) → HaveCanonical ms → MembersHaveNumbers (members_outline ms)
  members_have_numbers json.no_members h = tt
  members_have_numbers (json.member k d ms) h = (has_numbers d h.1, members_have_numbers ms h.2)

text_tokens : (d : json.Data) → IsCanonical d → tokens (compact_text d) ≡ json_tokens (outline d)
text_tokens d h = ap tokens (sym (print-outline d)) ∙ tokens-print (json_tokens (outline d)) (ArePrintable-json_tokens (outline d) (has_numbers d h))

-- ---- the data of its outline

-- members put one after another
abbrev put_all : json.Members → json.Members → json.Members
put_all json.no_members found = found
put_all (json.member k d ms) found = put_all ms (json.put k d found)

-- a member whose key is below all that are put stays first
put_all_below : (k : List ℕ) (d : json.Data) (ms found : json.Members) → IsBelow k (as_fields ms) → put_all ms (json.member k d found) ≡ json.member k d (put_all ms found)
put_all_below k d json.no_members found b = refl
put_all_below k d (json.member l e ms) found b =
    ap (λ o. put_all ms (match_ordering o (json.member l e (json.member k d found)) (json.member k e found) (json.member k d (json.put l e found)))) (less_turns k l b.0)
    ∙ put_all_below k d ms (json.put l e found) b.1

put_all_same : (ms : json.Members) → Ascend (as_fields ms) → put_all ms json.no_members ≡ ms
unfolding IsStrictlySortedBy
put_all_same json.no_members a = refl
put_all_same (json.member k d ms) a = put_all_below k d ms json.no_members a.0 ∙ ap (λ more. json.member k d more) (put_all_same ms a.1)

mutual
  of_outline : (d : json.Data) → IsCanonical d → IsInKeyOrder (json_tree d) → of_json (outline d) ≡ Some d
  of_outline json.null h i = refl
  of_outline (json.boolean b) h i = refl
  of_outline (json.number n) h i = ap (option_map json.number) (subst (λ m. number_of (number_text m) ≡ Some m) (sym h.2) (number_of-integer h.0 h.1))
  of_outline (json.string s) h i = refl
  of_outline (json.array ds) h i = ap (option_map json.array) (of_items_outline ds h i)
  of_outline (json.object ms) h i = ap (option_map json.object) (of_members_outline ms json.no_members h i.1 ∙ ap Some (put_all_same ms i.0))

  of_items_outline : (ds : json.Items) → AreCanonical ds → AreInKeyOrder (trees_of (json_items ds)) → of_items (items_outline ds) ≡ Some ds
  of_items_outline json.no_items h i = refl
  of_items_outline (json.item d ds) h i =
      ap (option_and_then (λ e. option_map (json.item e) (of_items (items_outline ds)))) (of_outline d h.0 i.0) ∙ ap (option_map (json.item d)) (of_items_outline ds h.1 i.1)

  of_members_outline : (ms found : json.Members) → HaveCanonical ms → HaveKeyOrder (as_fields ms) → of_members (members_outline ms) found ≡ Some (put_all ms found)
  of_members_outline json.no_members found h i = refl
  of_members_outline (json.member k d ms) found h i =
      ap (option_and_then (λ e. of_members (members_outline ms) (json.put k e found))) (of_outline d h.1 i.0) ∙ of_members_outline ms (json.put k d found) h.2 i.1

-- ---- its depth

no_depth : (o : Option ℤ) → depth (number_tree o) ≡ 0
no_depth None = refl
no_depth (Some n) = refl

mutual
  pub outline_depth : (d : json.Data) → tree.depth (outline d) ≡ depth (json_tree d)
  outline_depth json.null = refl
  outline_depth (json.boolean b) = refl
  outline_depth (json.number n) = sym (no_depth (as_i64 n))
  outline_depth (json.string s) = refl
  outline_depth (json.array ds) = ap suc (items_outline_depth ds)
  outline_depth (json.object ms) = ap suc (members_outline_depth ms)

  items_outline_depth : (ds : json.Items) → tree.items_depth (items_outline ds) ≡ depth_all (trees_of (json_items ds))
  items_outline_depth json.no_items = refl
  items_outline_depth (json.item d ds) = rw (outline_depth d, items_outline_depth ds) refl

  members_outline_depth : (ms : json.Members) → tree.members_depth (members_outline ms) ≡ depth_keyed (fields_of (json_members ms))
  members_outline_depth json.no_members = refl
  members_outline_depth (json.member k d ms) = rw (outline_depth d, members_outline_depth ms) refl

read_back : (d : json.Data) → IsCanonical d → IsInKeyOrder (json_tree d) → depth (json_tree d) ≤ 64 → read (compact_text d) ≡ Some d
read_back d h i shallow =
    let within = outline_depth d in
    ap (λ o. option_and_then of_json (option_and_then (λ p. text.if_last p.0 p.1) o))
    (ap (text.value max_depth) (text_tokens d h ∙ sym (append-nil (json_tokens (outline d)))) ∙ value-json_tokens (outline d) max_depth [] (omega arith))
    ∙ of_outline d h i

-- ---- its text is UTF-8

comma_utf8 : (later : Bool) → IsUtf8 (comma_if later)
comma_utf8 true = IsUtf8-are_ascii (44 ∷ []) refl
comma_utf8 false = IsUtf8-nil

sign_then : (sign : ℕ) (bytes : List ℕ) → IsUtf8 (sign ∷ []) → IsUtf8 bytes → IsUtf8 (sign ∷ bytes)
sign_then sign bytes s u = IsUtf8-append (sign ∷ []) bytes s u

mutual
  text_utf8 : (d : json.Data) → IsCanonical d → IsUtf8 (compact_text d)
  text_utf8 json.null h = IsUtf8-are_ascii _ refl
  text_utf8 (json.boolean b) h = IsUtf8-boolean b
  text_utf8 (json.number n) h = subst (λ m. IsUtf8 (number_text m)) (sym h.2) (IsUtf8-integer h.0 h.1)
  text_utf8 (json.string s) h = IsUtf8-quoted s h
  text_utf8 (json.array ds) h = sign_then 91 _ (IsUtf8-are_ascii _ refl) (items_utf8 false ds h)
  text_utf8 (json.object ms) h = sign_then 123 _ (IsUtf8-are_ascii _ refl) (members_utf8 false ms h)

  items_utf8 : (later : Bool) (ds : json.Items) → AreCanonical ds → IsUtf8 (items_text later ds)
  items_utf8 later json.no_items h = IsUtf8-are_ascii _ refl
  items_utf8 later (json.item d ds) h = IsUtf8-append (comma_if later) _ (comma_utf8 later) (IsUtf8-append (compact_text d) _ (text_utf8 d h.0) (items_utf8 true ds h.1))

  members_utf8 : (later : Bool) (ms : json.Members) → HaveCanonical ms → IsUtf8 (members_text later ms)
  members_utf8 later json.no_members h = IsUtf8-are_ascii _ refl
  members_utf8 later (json.member k d ms) h =
      let value = IsUtf8-append (compact_text d) _ (text_utf8 d h.1) (members_utf8 true ms h.2) in
      IsUtf8-append (comma_if later) _ (comma_utf8 later) (IsUtf8-append (quoted k) _ (IsUtf8-quoted k h.0) (sign_then 58 _ (IsUtf8-are_ascii _ refl) value))

-- the compact text of canonical data is JSON of that data
pub text_is_json : (d : json.Data) → IsCanonical d → IsInKeyOrder (json_tree d) → depth (json_tree d) ≤ 64 → json_data (compact_text d) ≡ Ok d
text_is_json d h i shallow = rw (is_utf8-from_IsUtf8 (compact_text d) (text_utf8 d h), read_back d h i shallow) refl
