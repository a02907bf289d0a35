-- The node of JSON data, member by member, and how deep it nests.
use Rattle.std.proofs.Common.{◌≡◌, ℕ, max, Bool, true, false, ◌&&◌, ◌||◌, List, [], ◌∷◌, ◌++◌, Result, Ok, Err, nat_lt, if◌then◌else◌, string_bytes, append_assoc, refl, ap, sym, ◌∙◌, arith}
use Rattle.std.specs.Str.{bytes_eq}
use Rattle.std.proofs.Common.{map, subst}
use Rattle.std.specs.String.{string_cmp}
use Rattle.std.specs.Ordering.{nat_cmp, is_eq}
use Rattle.std.specs.declared.cmp.Ordering.TheVariants.{Less}
use Rattle.std.specs.Cmp.Lexicographic.{slice_cmp}
use Rattle.std.specs.List.Sorted.{IsStrictlySortedBy}
use Rattle.std.specs.List.{AllByRecursion}
use Rattle.std.proofs.lemmas.Map.Keys.{sorted_head, sorted_tail}
use Rattle.std.proofs.lemmas.Map.Text.{is_eq-slice_cmp}
use Rattle.std.proofs.lemmas.Bool.Decides.{nat_tests}
use Rattle.serde_json.specs.Data as json
use Rattle.serde_json.specs.View.{members_view, view}
use Rattle.serde_json.proofs.Views.{Entry}
use Rattle.bosh_yaml.specs.declared.fault.ReadFault.{ReadFault}
use Rattle.bosh_yaml.specs.declared.fault.ReadFault.TheVariants.{Syntax, RepeatedKey, TooDeep, TooLarge, Number, Memory}
use Rattle.bosh_yaml.specs.Json.{has_integers, integers_or, json_data, json_events, members_have_integers}
use Rattle.bosh_yaml.specs.Keys.{has_key}
use Rattle.bosh_yaml.specs.Limits.{depth}
use Rattle.bosh_yaml.specs.Reading.{integers_only, json_reading}
use Rattle.bosh_yaml.specs.Result.{Refuses}
use Rattle.bosh_yaml.specs.Spelling.{json_members, json_tree}
use Rattle.bosh_yaml.specs.Tree.{Tree}
use Rattle.bosh_yaml.proofs.JsonOnceLemmas.{json_data_once}
use Rattle.bosh_yaml.proofs.KeyLemmas.{or_both}
use Rattle.bosh_yaml.proofs.MakesLemmas.{makes_whole, nests_whole, repeats_whole}
use Rattle.bosh_yaml.proofs.SpellingLemmas.{json_makes}

pub one_done : (all done left : List Entry) (e : Entry) (rest : List Entry) → all ≡ done ++ left → left ≡ e ∷ rest → all ≡ (done ++ e ∷ []) ++ rest
one_done all done left e rest p q = p ∙ rw q (sym (append_assoc done (e ∷ []) rest))

-- ---- keys

abbrev members : List Entry → List (List ℕ × Tree)
members es = json_members (members_view es)

pub members-push : (es : List Entry) (e : Entry) → members (es ++ e ∷ []) ≡ members es ++ (string_bytes e.0, json_tree (view e.1)) ∷ []
members-push [] e = refl
members-push (d ∷ es) e = ap (λ ps. (string_bytes d.0, json_tree (view d.1)) ∷ ps) (members-push es e)

less_differs : (a b : List ℕ) → slice_cmp nat_cmp a b ≡ Less → bytes_eq a b ≡ false
less_differs a b h = sym (is_eq-slice_cmp a b) ∙ ap is_eq h

less_at : (d e : Entry) (done rest : List Entry) → AllByRecursion (λ y. string_cmp d.0 y ≡ Less) (map (λ p. p.0) (done ++ e ∷ rest)) → string_cmp d.0 e.0 ≡ Less
less_at d e [] rest h = h.0
less_at d e (c ∷ done) rest h = less_at d e done rest h.1

new_at : (done rest : List Entry) (e : Entry) → IsStrictlySortedBy string_cmp (map (λ p. p.0) (done ++ e ∷ rest)) → has_key (string_bytes e.0) (members done) ≡ false
new_at [] rest e h = refl
new_at (d ∷ done) rest e h =
    let less = less_at d e done rest (sorted_head string_cmp d.0 _ h) in
    or_both (bytes_eq (string_bytes d.0) (string_bytes e.0)) (has_key (string_bytes e.0) (members done)) (less_differs (string_bytes d.0) (string_bytes e.0) less) (new_at done rest e (sorted_tail string_cmp d.0 _ h))

-- the keys ascend, so the key of a member is none of those before it
pub new_member : (all done left rest : List Entry) (e : Entry) → IsStrictlySortedBy string_cmp (map (λ p. p.0) all) → all ≡ done ++ left → left ≡ e ∷ rest → has_key (string_bytes e.0) (members done) ≡ false
new_member all done left rest e h p q = new_at done rest e (subst (λ (es : List Entry). IsStrictlySortedBy string_cmp (map (λ p. p.0) es)) (p ∙ ap (λ es. done ++ es) q) h)

-- ---- refusals

-- a number of a part is a number of the whole
pub part_refuses : {A B : Type 0} (e : ReadFault) (first more : Bool) (x : A) (y : B) → Refuses e (integers_or first x) → Refuses e (integers_or (first && more) y)
part_refuses Memory first more x y h = tt
part_refuses (Syntax line) true more x y h = absurd (cc)
part_refuses (Syntax line) false more x y h = absurd (cc)
part_refuses (RepeatedKey line) true more x y h = absurd (cc)
part_refuses (RepeatedKey line) false more x y h = absurd (cc)
part_refuses TooDeep true more x y h = absurd (cc)
part_refuses TooDeep false more x y h = absurd (cc)
part_refuses TooLarge true more x y h = absurd (cc)
part_refuses TooLarge false more x y h = absurd (cc)
part_refuses Number true more x y h = absurd (cc)
part_refuses Number false more x y h = refl

part_given : {A : Type 0} (first : Bool) (x y : A) → integers_or first x ≡ Ok y → (first ≡ true) × (x ≡ y)
part_given true x y h = (refl, cc)
part_given false x y h = absurd (cc)

pub given : {A : Type 0} (first : Bool) (x y : A) → integers_or first x ≡ Ok y → (first ≡ true) × (x ≡ y)
given first x y h = part_given first x y h

-- one more member
pub pairs_more : (whole : Bool) (pairs next : List (List ℕ × Tree)) (t : Tree) (done left rest : List Entry) (e : Entry) → left ≡ e ∷ rest → integers_or (has_integers (view e.1)) (json_tree (view e.1)) ≡ Ok t → pairs ≡ members done → next ≡ pairs ++ (string_bytes e.0, t) ∷ [] → members_have_integers (members_view left) ≡ whole → (next ≡ members (done ++ e ∷ [])) × (members_have_integers (members_view rest) ≡ whole)
pairs_more whole pairs next t done left rest e n g p q i =
    let both = given (has_integers (view e.1)) (json_tree (view e.1)) t g in
    let here = rw n at i in (
      q ∙ ap (λ ps. ps ++ (string_bytes e.0, t) ∷ []) p ∙ ap (λ u. members done ++ (string_bytes e.0, u) ∷ []) (sym both.1) ∙ sym (members-push done e),
      rw both.0 at here,
    )

-- ---- depth

pub deeper_or : (most a b : ℕ) → nat_lt most (max a b) ≡ (nat_lt most a || nat_lt most b)
deeper_or most a b = grind (arith, nat_tests)

-- ---- a text

integers_only_or : (b : Bool) (t : Tree) → integers_only b (Ok t) ≡ integers_or b t
integers_only_or true t = refl
integers_only_or false t = refl

unless_deep : (b : Bool) (e : ReadFault) (x : Result Tree ReadFault) (whole : Bool) → (if b then Err e else integers_only whole (if b then Err e else x)) ≡ (if b then Err e else integers_only whole x)
unless_deep true e x whole = refl
unless_deep false e x whole = refl

-- what JSON data reads as
pub data_reads : (text : List ℕ) (d : json.Data) → json_data text ≡ Ok d → json_reading text ≡ (if nat_lt 64 (depth (json_tree d)) then Err TooDeep else integers_or (has_integers d) (json_tree d))
data_reads text d h =
    let m = json_makes d in
    let once = json_data_once text d h in
    rw (h, repeats_whole (json_events d) (json_tree d) m once, nests_whole (json_events d) (json_tree d) m, makes_whole (json_events d) (json_tree d) m)
    (unless_deep (nat_lt 64 (depth (json_tree d))) TooDeep (Ok (json_tree d)) (has_integers d) ∙ ap (λ r. if nat_lt 64 (depth (json_tree d)) then Err TooDeep else r) (integers_only_or (has_integers d) (json_tree d)))
