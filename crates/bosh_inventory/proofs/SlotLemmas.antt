-- A list with a slot for each number from 1 on.
use Prim.Native.Nat.{zero, suc}
use Rattle.std.proofs.Common.{◌≡◌, ℕ, ◌+◌, ◌-◌, ◌≤◌, ◌<◌, Option, Some, None, List, [], ◌∷◌, ◌++◌, refl, sym, ◌∙◌, ap, arith, add-one, inl, inr}
use Rattle.std.specs.Prelude.{◌≢◌, length, map, slice_get, slice_set}
use Rattle.std.specs.List.{filter_map, cons_option}
use Rattle.std.specs.Option.{option_flatten}
use Rattle.std.proofs.lemmas.Bool.{cases_eq}
use Rattle.std.proofs.lemmas.Option.{slice_get_past}
use Rattle.std.proofs.lemmas.List.{map-append, length-map, set-append_left, set_at}
use Rattle.bosh_agent.specs.Slots.{at, with_slot}
use Rattle.bosh_base.specs.Cloud.{numbers_to}
use Rattle.bosh_inventory.specs.Rows.{slots}
use Rattle.bosh_inventory.proofs.NumberLemmas.{length-numbers_to}

pub length-slots : {T : Type 0} (row : ℕ → Option T) (n : ℕ) → length (slots row n) ≡ n
length-slots row n = length-map (numbers_to n) row ∙ length-numbers_to n

slice_get_front : {A : Type 0} (xs ys : List A) (k : ℕ) → k < length xs → slice_get (xs ++ ys) k ≡ slice_get xs k
slice_get_front [] ys k below = absurd (omega (arith, below))
slice_get_front (x ∷ xs) ys zero below = refl
slice_get_front (x ∷ xs) ys (suc k) below = slice_get_front xs ys k (omega (arith, below))

slice_get_seam : {A : Type 0} (xs : List A) (y : A) (k : ℕ) → k ≡ length xs → slice_get (xs ++ y ∷ []) k ≡ Some y
slice_get_seam [] y zero is = refl
slice_get_seam [] y (suc k) is = absurd (omega (arith, is))
slice_get_seam (x ∷ xs) y zero is = absurd (omega (arith, is))
slice_get_seam (x ∷ xs) y (suc k) is = slice_get_seam xs y k (omega (arith, is))

-- one slot more
map-numbers_to : {T : Type 0} (row : ℕ → Option T) (n : ℕ) → slots row (suc n) ≡ slots row n ++ row (suc n) ∷ []
map-numbers_to row n = map-append row (numbers_to n) (suc n ∷ [])

get-slots : {T : Type 0} (row : ℕ → Option T) (n k : ℕ) → k < n → slice_get (slots row n) k ≡ Some (row (suc k))
get-slots row zero k below = absurd (omega (arith, below))
get-slots {T} row (suc n) k below =
    let at_k : List (Option T) → Option (Option T) = λ xs. slice_get xs k in
    ap at_k (map-numbers_to row n)
    ∙ elim (cases_eq k n) [
      | inl is ↦ slice_get_seam (slots row n) (row (suc n)) k (is ∙ sym (length-slots row n))
          ∙ ap (λ v. Some (row (suc v))) (sym is)
      | inr other ↦ slice_get_front (slots row n) (row (suc n) ∷ []) k (omega (arith, length-slots row n, below, other))
          ∙ get-slots row n k (omega (arith, below, other))
    ]

-- the row of a number in range
pub at-slots : {T : Type 0} (row : ℕ → Option T) (n v : ℕ) → 1 ≤ v → v ≤ n → at (slots row n) v ≡ row v
at-slots row n zero low high = absurd (omega (arith, low))
at-slots row n (suc k) low high = ap option_flatten (get-slots row n k (omega (arith, high)))

pub at-slots_past : {T : Type 0} (row : ℕ → Option T) (n v : ℕ) → n < v → at (slots row n) v ≡ None
at-slots_past row n zero past = refl
at-slots_past row n (suc k) past =
    ap option_flatten (slice_get_past (slots row n) k (omega (arith, length-slots row n, past)))

-- two tables agree where their rows do
pub slots_same : {T : Type 0} (row other : ℕ → Option T) (n : ℕ) → ((v : ℕ) → v ≤ n → other v ≡ row v) →
    slots other n ≡ slots row n
slots_same row other zero same = refl
slots_same row other (suc n) same =
    map-numbers_to other n
    ∙ (λ i. slots_same row other n (λ v below. same v (omega (arith, below))) i ++ same (suc n) (omega arith) i ∷ [])
    ∙ sym (map-numbers_to row n)

-- one row differs
pub slots-with_slot : {T : Type 0} (row other : ℕ → Option T) (n v : ℕ) → 1 ≤ v → v ≤ n →
    ((u : ℕ) → u ≢ v → other u ≡ row u) → with_slot (slots row n) v (other v) ≡ slots other n
slots-with_slot row other zero v low high same = absurd (omega (arith, low, high))
slots-with_slot row other (suc n) v low high same =
    ap (λ xs. slice_set xs (v - 1) (other v)) (map-numbers_to row n)
    ∙ elim (cases_eq v (suc n)) [
      | inl is ↦
          set_at (slots row n) (row (suc n)) [] (other v) (v - 1) (length-slots row n ∙ omega (arith, is))
          ∙ (λ i. slots_same other row n (λ u below. sym (same u (λ at. omega (arith, at, is, below)))) i ++ other
          (is i) ∷ [])
          ∙ sym (map-numbers_to other n)
      | inr other_one ↦
          set-append_left (slots row n) (row (suc n) ∷ []) (v - 1) (other v)
          (omega (arith, length-slots row n, low, high, other_one))
          ∙ (λ i. slots-with_slot row other n v low (omega (arith, high, other_one)) same i ++ sym
          (same (suc n) (λ at. other_one (sym at))) i ∷ [])
          ∙ sym (map-numbers_to other n)
    ]

-- one row more
pub slots_more : {T : Type 0} (row other : ℕ → Option T) (n : ℕ) → ((u : ℕ) → u ≤ n → other u ≡ row u) →
    slots other (n + 1) ≡ slots row n ++ other (n + 1) ∷ []
slots_more row other n same =
    ap (slots other) (add-one n)
    ∙ map-numbers_to other n
    ∙ (λ i. slots_same row other n same i ++ other (sym (add-one n) i) ∷ [])

-- what is there
pub filter_map-slots : {T : Type 0} (row : ℕ → Option T) (xs : List ℕ) →
    filter_map (λ slot. slot) (map row xs) ≡ filter_map row xs
filter_map-slots row [] = refl
filter_map-slots row (x ∷ xs) = ap (cons_option (row x)) (filter_map-slots row xs)
