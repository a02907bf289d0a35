-- Marks of two lists beside one another.
use Rattle.std.proofs.Common.{arith, ap, refl, sym, ◌≡◌, ◌∙◌, ℕ, ◌+◌, ◌-◌, ◌<◌, ◌≤◌, ◌^◌, suc, Bool, true, false, List, [], ◌∷◌, ◌++◌, length, replicate, slice_set, Option, Some, None}
use Rattle.std.proofs.lemmas.Grind.{common_steps}
use Rattle.std.proofs.lemmas.List.{replicate-append-replicate, set-append_left, set-append_right, length-set, set_past}
use Rattle.std.specs.Option.{option_map}
use Rattle.std.proofs.lemmas.List.Sums.{count_by-le-length}
use Rattle.bosh_progress.specs.Tree.{first_marked, marked_in}

pub found_first : (xs ys : List Bool) → 0 < marked_in xs → first_marked (xs ++ ys) ≡ first_marked xs
found_first [] ys some = grind arith
found_first (true ∷ xs) ys some = refl
found_first (false ∷ xs) ys some = ap (option_map suc) (found_first xs ys (grind (arith, common_steps)))

pub found_second : (xs ys : List Bool) → marked_in xs ≡ 0 →
    first_marked (xs ++ ys) ≡ option_map (λ p. length xs + p) (first_marked ys)
found_second [] ys none = start (first_marked ys)
  where
    start : (place : Option ℕ) → place ≡ option_map (λ p. 0 + p) place
    start (Some p) = ap Some (omega arith)
    start None = refl
found_second (true ∷ xs) ys none = grind (arith, common_steps)
found_second (false ∷ xs) ys none =
    let before : first_marked (xs ++ ys) ≡ option_map (λ p. length xs + p) (first_marked ys) = found_second xs ys (grind (arith, common_steps)) in
    next (first_marked (xs ++ ys)) (first_marked ys) before
  where
    next : (whole place : Option ℕ) → whole ≡ option_map (λ p. length xs + p) place →
        option_map suc whole ≡ option_map (λ p. length (false ∷ xs) + p) place
    next whole (Some p) before = let e : suc (length xs + p) ≡ length (false ∷ xs) + p = grind (arith, common_steps) in grind (arith, common_steps)
    next whole None before = grind (arith, common_steps)

found_later : (n place : ℕ) (it : Option ℕ) → ((p : ℕ) → it ≡ Some p → p < n) → option_map suc it ≡ Some place → place < suc n
found_later n place (Some p) below found = let small : p < n = below p refl in grind (arith, common_steps)
found_later n place None below found = grind (arith, common_steps)

-- a marked place is one of the list
pub found_in : (xs : List Bool) (place : ℕ) → first_marked xs ≡ Some place → place < length xs
found_in [] place found = grind (arith, common_steps)
found_in (true ∷ xs) place found = grind (arith, common_steps)
found_in (false ∷ xs) place found =
    let below : place < suc (length xs) = found_later (length xs) place (first_marked xs) (found_in xs) found in
    grind (arith, common_steps)

pub counts_fit : (xs ys : List Bool) → length xs + length ys < 2 ^ 64 → marked_in xs + marked_in ys < 2 ^ 64
counts_fit xs ys room =
    let few : marked_in xs ≤ length xs = count_by-le-length (λ mark. mark) xs in
    let fewer : marked_in ys ≤ length ys = count_by-le-length (λ mark. mark) ys in
    omega arith

-- as many in two parts
pub halves : (n half : ℕ) (mark : Bool) → half ≤ n → replicate half mark ++ replicate (n - half) mark ≡ replicate n mark
halves n half mark less =
    let whole : half + (n - half) ≡ n = omega arith in
    grind (arith, common_steps, replicate-append-replicate half (n - half) mark)

-- a change in the first part, and in the second
pub set_first : (xs ys zs : List Bool) (i : ℕ) (mark : Bool) → i < length xs → zs ≡ slice_set xs i mark →
    zs ++ ys ≡ slice_set (xs ++ ys) i mark
set_first xs ys zs i mark below same = ap (λ it. it ++ ys) same ∙ sym (set-append_left xs ys i mark below)

pub set_second : (xs ys zs : List Bool) (n i : ℕ) (mark : Bool) → n ≡ length xs → n ≤ i → zs ≡ slice_set ys (i - n) mark →
    xs ++ zs ≡ slice_set (xs ++ ys) i mark
set_second xs ys zs n i mark many above same =
    ap (λ it. xs ++ it) same ∙ sym (set-append_right xs ys n i mark (sym many) above)

-- a list that was changed at a place has its length
pub as_long : (xs zs : List Bool) (i : ℕ) (mark : Bool) → zs ≡ slice_set xs i mark → length zs ≡ length xs
as_long xs zs i mark same = ap length same ∙ length-set xs i mark

-- the sum of a length and of a place fits, where all of them do
pub place_fits : (xs ys : List Bool) (place len : ℕ) → first_marked ys ≡ Some place → len ≡ length xs + length ys → len < 2 ^ 64 →
    length xs + place < 2 ^ 64
place_fits xs ys place len found whole fits = let below : place < length ys = found_in ys place found in omega arith

-- there is no place past the last
pub none_past : (xs : List Bool) (i : ℕ) (mark : Bool) → length xs ≤ i → xs ≡ slice_set xs i mark
none_past xs i mark past = sym (set_past xs i mark past)
