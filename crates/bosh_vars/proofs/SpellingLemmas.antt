-- What begins with a placeholder, and that the parts of a text are written as the text.
use Rattle.std.proofs.Common.{◌≡◌, ℕ, zero, suc, ◌+◌, Bool, true, false, ◌&&◌, ◌==◌, cond, List, [], ◌∷◌, ◌++◌, Option, Some, None, length, take, drop, arith, ap, sym, ◌∙◌, subst, refl}
use Rattle.std.specs.Prelude.{codes}
use Rattle.std.specs.List.{list_all}
use Rattle.std.proofs.lemmas.Bool.{and_parts}
use Rattle.std.proofs.lemmas.Bool.Decides.{nat_tests}
use Rattle.std.proofs.lemmas.List.{take-append-drop}
use Rattle.std.proofs.Math.Seq.{take-append_seam, drop-append_seam}
use Rattle.bosh_vars.specs.Placeholder.{is_name_letter, name_len, closed_name, name_at, part_of, more_of, parts_past}
use Rattle.bosh_vars.specs.Spelling.{IsName, AreRight, BeginsWith, text_of_parts}
use Rattle.bosh_vars.proofs.PlaceholderLemmas.{after_name}

letters_step : (c : Bool) (b : ℕ) (bs : List ℕ) → (is_name_letter b ≡ c) → list_all is_name_letter (take (name_len bs) bs) ≡ true → list_all is_name_letter (take (cond c (suc (name_len bs)) 0) (b ∷ bs)) ≡ true
letters_step true b bs e h = rw e h
letters_step false b bs e h = refl

all_letters : (bs : List ℕ) → list_all is_name_letter (take (name_len bs) bs) ≡ true
all_letters [] = refl
all_letters (b ∷ bs) = letters_step (is_name_letter b) b bs refl (all_letters bs)

-- a name goes up to a closing parenthesis
name_len-closed : (name after : List ℕ) → list_all is_name_letter name ≡ true → name_len (name ++ 41 ∷ after) ≡ length name
name_len-closed [] after h = refl
name_len-closed (b ∷ name) after h =
    let parts = and_parts (is_name_letter b) (list_all is_name_letter name) h in
    ap (λ c. cond c (suc (name_len (name ++ 41 ∷ after))) 0) parts.0 ∙ ap suc (name_len-closed name after parts.1)

closed-name : (name after : List ℕ) → IsName name → closed_name name (41 ∷ 41 ∷ after) ≡ Some name
closed-name [] after h = cc
closed-name (b ∷ name) after h = refl

is_name-all : (name : List ℕ) → IsName name → list_all is_name_letter name ≡ true
is_name-all [] h = cc
is_name-all (b ∷ name) h = h

-- what is written as a placeholder is one
pub name_at-written : (text name after : List ℕ) → BeginsWith text name after → name_at text ≡ Some name
name_at-written text name after h =
    let rest : List ℕ = name ++ 41 ∷ 41 ∷ after in
    let len : name_len rest ≡ length name = name_len-closed name (41 ∷ after) (is_name-all name h.0) in
    let front : take (name_len rest) rest ≡ name = ap (λ n. take n rest) len ∙ take-append_seam name (41 ∷ 41 ∷ after) in
    let back : drop (name_len rest) rest ≡ 41 ∷ 41 ∷ after = ap (λ n. drop n rest) len ∙ drop-append_seam name (41 ∷ 41 ∷ after) in
    ap name_at h.1 ∙ (ap (λ xs. closed_name xs (drop (name_len rest) rest)) front ∙ (ap (closed_name name) back ∙ closed-name name after h.0))

chosen : (c : Bool) (o : Option (List ℕ)) (name : List ℕ) → cond c o None ≡ Some name → (c ≡ true) × (o ≡ Some name)
chosen true o name h = (refl, h)
chosen false o name h = cc

some_is : (xs ys : List ℕ) → ◌≡◌ {A = Option (List ℕ)} (Some xs) (Some ys) → xs ≡ ys
some_is xs ys h = cc

-- a name that is closed has a letter, and two parentheses follow it
closed-parts : (xs ys name : List ℕ) → list_all is_name_letter xs ≡ true → closed_name xs ys ≡ Some name → (after : List ℕ) × (IsName name × (xs ++ ys ≡ name ++ 41 ∷ 41 ∷ after))
closed-parts [] ys name l h = cc
closed-parts (b ∷ xs) [] name l h = cc
closed-parts (b ∷ xs) (c ∷ []) name l h = cc
closed-parts (b ∷ xs) (c ∷ d ∷ after) name l h =
    let found = chosen (c == 41 && d == 41) (Some (b ∷ xs)) name h in
    let tests = and_parts (c == 41) (d == 41) found.0 in
    let first : c ≡ 41 = let t = tests.0 in grind (arith, nat_tests) in
    let second : d ≡ 41 = let t = tests.1 in grind (arith, nat_tests) in
    let same : (b ∷ xs) ≡ name = some_is (b ∷ xs) name found.1 in
    (after, (subst IsName same l, ap (λ (c : ℕ). (b ∷ xs) ++ c ∷ d ∷ after) first ∙ (ap (λ (d : ℕ). (b ∷ xs) ++ 41 ∷ d ∷ after) second ∙ ap (λ (n : List ℕ). n ++ 41 ∷ 41 ∷ after) same)))

-- what is one is written so
pub written-name_at : (text name : List ℕ) → name_at text ≡ Some name → (after : List ℕ) × BeginsWith text name after
written-name_at [] name h = cc
written-name_at (a ∷ []) name h = cc
written-name_at (a ∷ b ∷ bs) name h =
    let found = chosen (a == 40 && b == 40) (closed_name (take (name_len bs) bs) (drop (name_len bs) bs)) name h in
    let tests = and_parts (a == 40) (b == 40) found.0 in
    let first : a ≡ 40 = let t = tests.0 in grind (arith, nat_tests) in
    let second : b ≡ 40 = let t = tests.1 in grind (arith, nat_tests) in
    let closed = closed-parts (take (name_len bs) bs) (drop (name_len bs) bs) name (all_letters bs) found.1 in
    let rest : bs ≡ name ++ 41 ∷ 41 ∷ closed.0 = sym (take-append-drop (name_len bs) bs) ∙ closed.1.1 in
    (closed.0, (closed.1.0, ap (λ (a : ℕ). a ∷ b ∷ bs) first ∙ (ap (λ (b : ℕ). 40 ∷ b ∷ bs) second ∙ ap (λ (bs : List ℕ). 40 ∷ 40 ∷ bs) rest)))

part_written : (o : Option (List ℕ)) (b : ℕ) (bs : List ℕ) → name_at (b ∷ bs) ≡ o → text_of_parts (parts_past (more_of o) bs) ≡ drop (more_of o) bs → text_of_parts (part_of o b ∷ parts_past (more_of o) bs) ≡ b ∷ bs
part_written None b bs is rest = ap (λ (xs : List ℕ). b ∷ xs) rest
part_written (Some name) b bs is rest =
    let found = written-name_at (b ∷ bs) name is in
    let tail : bs ≡ 40 ∷ (name ++ 41 ∷ 41 ∷ found.0) = ap (drop 1) found.1.1 in
    let end : text_of_parts (parts_past (length name + 3) bs) ≡ found.0 = rest ∙ (ap (drop (length name + 3)) tail ∙ after_name name found.0) in
    ap (λ (xs : List ℕ). codes "((" ++ (name ++ (codes "))" ++ xs))) end ∙ sym found.1.1

-- parts past some bytes are written as what follows these
pub written-past : (n : ℕ) (bs : List ℕ) → text_of_parts (parts_past n bs) ≡ drop n bs
written-past zero [] = refl
written-past (suc n) [] = refl
written-past (suc n) (b ∷ bs) = written-past n bs
written-past zero (b ∷ bs) = part_written (name_at (b ∷ bs)) b bs refl (written-past (more_of (name_at (b ∷ bs))) bs)

-- no placeholder begins where none is found
unwritten : (text name after : List ℕ) → name_at text ≡ None → ¬ BeginsWith text name after
unwritten text name after none begins =
    let some = name_at-written text name after begins in
    let same : ◌≡◌ {A = Option (List ℕ)} None (Some name) = sym none ∙ some in
    absurd cc

part_right : (o : Option (List ℕ)) (b : ℕ) (bs : List ℕ) → name_at (b ∷ bs) ≡ o → AreRight (parts_past (more_of o) bs) → AreRight (part_of o b ∷ parts_past (more_of o) bs)
part_right None b bs is right =
    ((λ name after. subst (λ xs. ¬ BeginsWith (b ∷ xs) name after) (sym (written-past 0 bs)) (unwritten (b ∷ bs) name after is)), right)
part_right (Some name) b bs is right = ((written-name_at (b ∷ bs) name is).1.0, right)

-- each part stands where it may
pub parts_past-right : (n : ℕ) (bs : List ℕ) → AreRight (parts_past n bs)
parts_past-right zero [] = tt
parts_past-right (suc n) [] = tt
parts_past-right (suc n) (b ∷ bs) = parts_past-right n bs
parts_past-right zero (b ∷ bs) = part_right (name_at (b ∷ bs)) b bs refl (parts_past-right (more_of (name_at (b ∷ bs))) bs)
