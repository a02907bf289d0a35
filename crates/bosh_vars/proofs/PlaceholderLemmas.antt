-- The part at the front of a text, and the parts of what follows it; and that names are ASCII.
use Rattle.std.proofs.Common.{◌≡◌, ℕ, zero, suc, ◌+◌, ◌<◌, Bool, true, false, cond, List, [], ◌∷◌, ◌++◌, Some, None, length, take, drop, arith, ap, sym, ◌∙◌, subst, refl}
use Rattle.std.specs.Prelude.{codes}
use Rattle.std.specs.List.{list_all}
use Rattle.std.specs.Str.{IsUtf8}
use Rattle.std.proofs.lemmas.Bool.{and_parts}
use Rattle.std.proofs.lemmas.Bool.Decides.{nat_tests}
use Rattle.std.proofs.lemmas.Str.{IsUtf8-append, IsUtf8-nil}
use Rattle.bosh_vars.specs.Filled.{only_name}
use Rattle.bosh_vars.specs.Placeholder.{is_name_letter, name_len, name_at, plain, placeholder, part_of, more_of, parts_past, parts}
use Rattle.bosh_vars.specs.Spelling.{is_name}
use Rattle.bosh_vars.proofs.TextLemmas.{IsUtf8-ascii, IsUtf8-cut}

letter_ascii : (b : ℕ) → is_name_letter b ≡ true → b < 128
letter_ascii b h = grind (arith, nat_tests)

one_more_letter : (c : Bool) (b : ℕ) (bs : List ℕ) → (c ≡ true → b < 128) → IsUtf8 (take (name_len bs) bs) → IsUtf8 (take (cond c (suc (name_len bs)) 0) (b ∷ bs))
one_more_letter true b bs low u = IsUtf8-append (b ∷ []) (take (name_len bs) bs) (IsUtf8-ascii b (low refl)) u
one_more_letter false b bs low u = IsUtf8-nil

-- the letters at the front are a text
pub letters_utf8 : (bs : List ℕ) → IsUtf8 (take (name_len bs) bs)
letters_utf8 [] = IsUtf8-nil
letters_utf8 (b ∷ bs) = one_more_letter (is_name_letter b) b bs (letter_ascii b) (letters_utf8 bs)

name_letters_utf8 : (bs : List ℕ) → list_all is_name_letter bs ≡ true → IsUtf8 bs
name_letters_utf8 [] all = IsUtf8-nil
name_letters_utf8 (b ∷ bs) all =
    let parts = and_parts (is_name_letter b) (list_all is_name_letter bs) all in
    IsUtf8-append (b ∷ []) bs (IsUtf8-ascii b (letter_ascii b parts.0)) (name_letters_utf8 bs parts.1)

-- a name is a text
pub name_utf8 : (bs : List ℕ) → is_name bs ≡ true → IsUtf8 bs
name_utf8 [] is = cc
name_utf8 (b ∷ bs) is = name_letters_utf8 (b ∷ bs) is

pub parts_past-drop : (n : ℕ) (bs : List ℕ) → parts_past n bs ≡ parts (drop n bs)
parts_past-drop zero bs = refl
parts_past-drop (suc n) [] = refl
parts_past-drop (suc n) (b ∷ bs) = parts_past-drop n bs

pub after_name : (name after : List ℕ) → drop (length name + 3) (40 ∷ (name ++ 41 ∷ 41 ∷ after)) ≡ after
after_name name after =
    let more : length name + 3 ≡ suc (length name + 2) = omega arith in
    rw more (drop_two name)
  where
    drop_two : (xs : List ℕ) → drop (length xs + 2) (xs ++ 41 ∷ 41 ∷ after) ≡ after
    drop_two [] = refl
    drop_two (x ∷ xs) = let more : suc (length xs) + 2 ≡ suc (length xs + 2) = omega arith in rw more (drop_two xs)

-- a placeholder at the front is the first part
pub parts-placeholder : (bytes name after : List ℕ) → name_at bytes ≡ Some name → bytes ≡ codes "((" ++ (name ++ (codes "))" ++ after)) → parts bytes ≡ placeholder name ∷ parts after
parts-placeholder bytes name after found is =
    let rest : List ℕ = 40 ∷ (name ++ 41 ∷ 41 ∷ after) in
    let found' : name_at (40 ∷ rest) ≡ Some name = subst (λ bs. name_at bs ≡ Some name) is found in
    ap parts is ∙ (ap (λ o. part_of o 40 ∷ parts_past (more_of o) rest) found'
    ∙ ap (λ ps. placeholder name ∷ ps) (parts_past-drop (length name + 3) rest ∙ ap parts (after_name name after)))

-- a byte at which no placeholder begins is the first part
pub parts-plain : (b : ℕ) (bs : List ℕ) → name_at (b ∷ bs) ≡ None → parts (b ∷ bs) ≡ plain b ∷ parts bs
parts-plain b bs none = ap (λ o. part_of o b ∷ parts_past (more_of o) bs) none

only_name-plain : (b : ℕ) (bs : List ℕ) → name_at (b ∷ bs) ≡ None → only_name (parts (b ∷ bs)) ≡ None
only_name-plain b bs none = ap only_name (parts-plain b bs none)

-- no placeholder at the front
pub only_name-none : (bytes : List ℕ) → None ≡ name_at bytes → None ≡ only_name (parts bytes)
only_name-none [] none = refl
only_name-none (b ∷ bs) none = sym (only_name-plain b bs (sym none))

-- nothing behind the placeholder at the front
pub only_name-alone : (bytes name after : List ℕ) → Some name ≡ name_at bytes → bytes ≡ codes "((" ++ (name ++ (codes "))" ++ after)) → length after ≡ 0 → Some name ≡ only_name (parts bytes)
only_name-alone bytes name [] found is none = sym (ap only_name (parts-placeholder bytes name [] (sym found) is))
only_name-alone bytes name (b ∷ after) found is none = absurd (omega arith)

-- something behind the placeholder at the front
pub only_name-more : (bytes name after : List ℕ) → Some name ≡ name_at bytes → bytes ≡ codes "((" ++ (name ++ (codes "))" ++ after)) → 0 < length after → None ≡ only_name (parts bytes)
only_name-more bytes name [] found is some = absurd (omega arith)
only_name-more bytes name (b ∷ after) found is some = sym (ap only_name (parts-placeholder bytes name (b ∷ after) (sym found) is))

pub ruleset only_names = (only_name-none, only_name-alone, only_name-more)

-- where a placeholder is replaced, the text before it, and what follows it, stay texts
pub IsUtf8-around : (front name after : List ℕ) → IsUtf8 (front ++ (codes "((" ++ (name ++ (codes "))" ++ after)))) → IsUtf8 name → IsUtf8 front × IsUtf8 after
IsUtf8-around front name after u n =
    let cut = IsUtf8-cut front 40 (40 ∷ (name ++ 41 ∷ 41 ∷ after)) (omega arith) u in
    let past = (IsUtf8-cut [] 40 (name ++ 41 ∷ 41 ∷ after) (omega arith) cut.1).1 in
    let end = (IsUtf8-cut name 41 (41 ∷ after) (omega arith) past).1 in
    (cut.0, (IsUtf8-cut [] 41 after (omega arith) end).1)
