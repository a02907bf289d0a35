-- Numbers are read as they were spelled.
use Rattle.std.proofs.Common.{◌≡◌, ℕ, ◌+◌, ◌^◌, ◌<◌, ◌≤◌, Bool, true, false, cond, ltb, List, ◌++◌, length, take, drop, Some, None, refl, sym, ap, subst, ◌∙◌, arith, inl, inr}
use Rattle.std.specs.Int.{w64, from_be_bytes, to_be_bytes}
use Rattle.std.proofs.lemmas.Bool.{cases_lt, ltb-false, ltb-true, lt-ltb, le-ltb}
use Rattle.std.proofs.lemmas.List.{take-append-drop, length-append, length-take, get_or-drop, get_or-take, get_or_past}
use Rattle.std.proofs.lemmas.Nat.{be_bytes_8, from_be_bytes-to_be_bytes_8}
use Rattle.bosh_entry.specs.Reading.{IsBytes}
use Rattle.bosh_entry.specs.Number.{is_byte, number, is_number, number_at, is_small, small_at, worker_at}
use Rattle.bosh_entry.proofs.CodingLemmas.{Takes, IsCoding, only_law}

pub IsBytes-drop : (n : ℕ) (bytes : List ℕ) → IsBytes bytes → IsBytes (drop n bytes)
IsBytes-drop n bytes h i = rw get_or-drop (h (n + i))

pub IsBytes-take : (n : ℕ) (bytes : List ℕ) → IsBytes bytes → IsBytes (take n bytes)
IsBytes-take n bytes h i =
    elim (cases_lt i n) [
      | inl lt ↦ rw (get_or-take n bytes i 0 lt) (h i)
      | inr le ↦ rw (get_or_past (take n bytes) i 0 (omega (arith, length-take n bytes))) (omega arith)
    ]

pub guard_some : {A : Type 0} (b : Bool) (x y : A) → cond b None (Some x) ≡ Some y → (b ≡ false) × (x ≡ y)
guard_some true x y e = absurd cc
guard_some false x y e = (refl, cc)

below : (bytes : List ℕ) → IsBytes bytes → from_be_bytes w64 bytes < 2 ^ 64
below bytes fits = omega (arith, fits 0, fits 1, fits 2, fits 3, fits 4, fits 5, fits 6, fits 7)

number_takes : (bytes : List ℕ) (x : ℕ × List ℕ) → IsBytes bytes → number_at bytes ≡ Some x → Takes bytes (number x.0) x.1 × (is_number x.0 ≡ true)
unfolding number_at number
number_takes bytes x fits e =
    let g = guard_some (ltb (length bytes) 8) (from_be_bytes w64 (take 8 bytes), drop 8 bytes) x e in
    let long : 8 ≤ length bytes = ltb-false _ _ g.0 in
    let front_fits : IsBytes (take 8 bytes) = IsBytes-take 8 bytes fits in
    let front : to_be_bytes w64 (from_be_bytes w64 (take 8 bytes)) ≡ take 8 bytes = be_bytes_8 (take 8 bytes) _ (omega (arith, length-take 8 bytes)) front_fits refl in
    let whole : bytes ≡ to_be_bytes w64 (from_be_bytes w64 (take 8 bytes)) ++ drop 8 bytes = sym (take-append-drop 8 bytes) ∙ ap (λ (t : List ℕ). t ++ drop 8 bytes) (sym front) in
    subst (λ (y : ℕ × List ℕ). Takes bytes (number y.0) y.1 × (is_number y.0 ≡ true)) g.1
    (record { parts = whole; rest_fits = IsBytes-drop 8 bytes fits }, lt-ltb _ _ (below (take 8 bytes) front_fits))

number_again : (n : ℕ) (rest : List ℕ) → is_number n ≡ true → number_at (number n ++ rest) ≡ Some (n, rest)
unfolding number_at number
number_again n rest h =
    let long : ltb (length (to_be_bytes w64 n ++ rest)) 8 ≡ false = le-ltb _ _ (omega (arith, length-append (to_be_bytes w64 n) rest)) in
    rw long (ap (λ (m : ℕ). Some (m, rest)) (from_be_bytes-to_be_bytes_8 n (ltb-true _ _ h)))

pub number_law : IsCoding number is_number number_at
number_law = record { takes = number_takes; again = number_again }

pub small_law : IsCoding number is_small small_at
unfolding small_at
small_law = only_law is_small (λ n h. lt-ltb _ _ (omega (arith, ltb-true _ _ h))) number_law

pub worker_law : IsCoding number is_byte worker_at
unfolding worker_at
worker_law = only_law is_byte (λ n h. lt-ltb _ _ (omega (arith, ltb-true _ _ h))) number_law
