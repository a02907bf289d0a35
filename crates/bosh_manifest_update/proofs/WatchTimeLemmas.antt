-- Numbers of decimal digits are compared by how many digits they have without leading zeros, and then by the first
-- digits that differ.
use Rattle.std.proofs.Common.{◌≡◌, ℕ, ◌+◌, ◌-◌, ◌*◌, ◌<◌, ◌≤◌, ◌==◌, true, nat_le, nat_lt, List, [], ◌∷◌, length, arith, refl, sym, ap, ◌∙◌, subst, inl, inr}
use Rattle.std.specs.Char.{is_ascii_digit, digit_value}
use Rattle.std.specs.List.{list_all}
use Rattle.std.specs.Ordering.{nat_cmp, is_le}
use Rattle.std.specs.Cmp.Lexicographic.{slice_cmp}
use Rattle.std.specs.Str.Parse.{digits_value, digits_value_after}
use Rattle.std.proofs.lemmas.Bool.{cases_Bool, cases_lt, le-leb, lt-leb, eqb-true, lt-ltb, le-ltb}
use Rattle.std.proofs.lemmas.Bool.Decides.{nat_tests}
use Rattle.std.proofs.lemmas.Cmp.{ranked, by_ranked}
use Rattle.bosh_ip.specs.Bytes.{without_leading}

-- decimal digits
abbrev pub Digits : List ℕ → Type 0
Digits ds = list_all is_ascii_digit ds ≡ true

abbrev pub after : ℕ → List ℕ → ℕ
after n ds = digits_value_after 10 n ds

digit_is : (c : ℕ) → is_ascii_digit c ≡ true → (48 ≤ c) × (c ≤ 57) × (digit_value c ≡ c - 48)
digit_is c h = grind (arith, nat_tests)

first_of : (c : ℕ) (ds : List ℕ) → Digits (c ∷ ds) → is_ascii_digit c ≡ true
first_of c ds h = grind (arith, nat_tests)

others_of : (c : ℕ) (ds : List ℕ) → Digits (c ∷ ds) → Digits ds
others_of c ds h = grind (arith, nat_tests)

-- more digits make no smaller number
le_after : (n : ℕ) (ds : List ℕ) → n ≤ after n ds
le_after n [] = omega arith
le_after n (d ∷ ds) = omega (arith, le_after (n * 10 + digit_value d) ds)

le_of_less : {m n : ℕ} → m < n → m ≤ n
le_of_less h = omega arith

-- where the front is less, so is the whole, with no more digits
less_after : (m n : ℕ) (xs ys : List ℕ) → Digits xs → Digits ys → length xs ≤ length ys → m < n → after m xs < after n ys
less_after m n [] ys xd yd short less = omega (arith, le_after n ys)
less_after m n (x ∷ xs) [] xd yd short less = absurd (omega arith)
less_after m n (x ∷ xs) (y ∷ ys) xd yd short less =
    let dx = digit_is x (first_of x xs xd) in
    let dy = digit_is y (first_of y ys yd) in
    less_after (m * 10 + digit_value x) (n * 10 + digit_value y) xs ys (others_of x xs xd) (others_of y ys yd) (omega arith) (omega arith)

-- as many digits
pub cmp_after : (m : ℕ) (xs ys : List ℕ) → Digits xs → Digits ys → length xs ≡ length ys → is_le (slice_cmp nat_cmp xs ys) ≡ nat_le (after m xs) (after m ys)
cmp_after m [] [] xd yd same = sym (le-leb m m (omega arith))
cmp_after m [] (y ∷ ys) xd yd same = absurd (omega arith)
cmp_after m (x ∷ xs) [] xd yd same = absurd (omega arith)
cmp_after m (x ∷ xs) (y ∷ ys) xd yd same =
    let dx = digit_is x (first_of x xs xd) in
    let dy = digit_is y (first_of y ys yd) in
    let a = m * 10 + digit_value x in
    let b = m * 10 + digit_value y in
    let xs_digits = others_of x xs xd in
    let ys_digits = others_of y ys yd in
    let rest : length xs ≡ length ys = omega arith in
    by_ranked (x < y) (x ≡ y) (y < x) (nat_cmp x y) (ranked x y (nat_cmp x y) refl)
    (λ e less. rw e (sym (le-leb (after a xs) (after b ys) (le_of_less (less_after a b xs ys xs_digits ys_digits (omega arith) (omega arith))))))
    (λ e equal. rw e (cmp_after a xs ys xs_digits ys_digits rest ∙ ap (λ n. nat_le (after a xs) (after n ys)) (ap (λ n. m * 10 + digit_value n) equal)))
    (λ e greater. rw e (sym (lt-leb (after a xs) (after b ys) (less_after b a ys xs ys_digits xs_digits (omega arith) (omega arith)))))

-- leading zeros do not count
pub value_without_zeros : (ds : List ℕ) → digits_value 10 (without_leading 48 ds) ≡ digits_value 10 ds
value_without_zeros [] = refl
value_without_zeros (d ∷ ds) =
    elim (cases_Bool (d == 48)) [
      | inl zero ↦
          let is : d ≡ 48 = eqb-true d 48 zero in
          let same : digits_value 10 (d ∷ ds) ≡ digits_value 10 ds = ap (λ n. digits_value 10 (n ∷ ds)) is in
          rw zero (value_without_zeros ds ∙ sym same)
      | inr other ↦ rw other refl
    ]

pub digits_without_zeros : (ds : List ℕ) → Digits ds → Digits (without_leading 48 ds)
digits_without_zeros [] h = refl
digits_without_zeros (d ∷ ds) h =
    elim (cases_Bool (d == 48)) [
      | inl zero ↦ rw zero (digits_without_zeros ds (others_of d ds h))
      | inr other ↦ rw other h
    ]

-- with more digits, of which no zero leads, a number is greater
longer_without_zeros : (xs ds : List ℕ) → Digits xs → Digits ds → length xs < length (without_leading 48 ds) → digits_value 10 xs < digits_value 10 (without_leading 48 ds)
longer_without_zeros xs [] xd dd longer = absurd (omega arith)
longer_without_zeros xs (d ∷ ds) xd dd longer =
    elim (cases_Bool (d == 48)) [
      | inl zero ↦
          let cut : without_leading 48 (d ∷ ds) ≡ without_leading 48 ds = rw zero refl in
          let more : length xs < length (without_leading 48 ds) = subst (λ (ys : List ℕ). length xs < length ys) cut longer in
          rw zero (longer_without_zeros xs ds xd (others_of d ds dd) more)
      | inr other ↦
          let digit = digit_is d (first_of d ds dd) in
          let positive : 0 < 0 * 10 + digit_value d = grind (arith, nat_tests) in
          let whole : without_leading 48 (d ∷ ds) ≡ d ∷ ds = rw other refl in
          let more : length xs < length (d ∷ ds) = subst (λ (ys : List ℕ). length xs < length ys) whole longer in
          rw other (less_after 0 (0 * 10 + digit_value d) xs ds xd (others_of d ds dd) (omega arith) positive)
    ]

-- of two numbers with different numbers of digits, without leading zeros, that with fewer is less
pub shorter_is_less :
    (xs ys : List ℕ) → Digits xs → Digits ys → (length (without_leading 48 xs) ≡ length (without_leading 48 ys) → ⊥)
    → nat_lt (length (without_leading 48 xs)) (length (without_leading 48 ys)) ≡ nat_le (digits_value 10 xs) (digits_value 10 ys)
shorter_is_less xs ys xd yd differ =
    let m = length (without_leading 48 xs) in
    let n = length (without_leading 48 ys) in
    let xv : digits_value 10 (without_leading 48 xs) ≡ digits_value 10 xs = value_without_zeros xs in
    let yv : digits_value 10 (without_leading 48 ys) ≡ digits_value 10 ys = value_without_zeros ys in
    elim (cases_lt m n) [
      | inl shorter ↦
          let less : digits_value 10 (without_leading 48 xs) < digits_value 10 (without_leading 48 ys) = longer_without_zeros (without_leading 48 xs) ys (digits_without_zeros xs xd) yd shorter in
          lt-ltb m n shorter ∙ sym (le-leb (digits_value 10 xs) (digits_value 10 ys) (omega (arith, less, xv, yv)))
      | inr no_shorter ↦
          let longer : n < m = omega (arith, no_shorter, differ) in
          let less : digits_value 10 (without_leading 48 ys) < digits_value 10 (without_leading 48 xs) = longer_without_zeros (without_leading 48 ys) xs (digits_without_zeros ys yd) xd longer in
          le-ltb m n no_shorter ∙ sym (lt-leb (digits_value 10 xs) (digits_value 10 ys) (omega (arith, less, xv, yv)))
    ]

-- and of two with as many digits, that whose digits come first
pub as_long_in_order :
    (xs ys : List ℕ) → Digits xs → Digits ys → length (without_leading 48 xs) ≡ length (without_leading 48 ys)
    → is_le (slice_cmp nat_cmp (without_leading 48 xs) (without_leading 48 ys)) ≡ nat_le (digits_value 10 xs) (digits_value 10 ys)
as_long_in_order xs ys xd yd same =
    cmp_after 0 (without_leading 48 xs) (without_leading 48 ys) (digits_without_zeros xs xd) (digits_without_zeros ys yd) same
    ∙ ap (λ n. nat_le n (digits_value 10 (without_leading 48 ys))) (value_without_zeros xs)
    ∙ ap (nat_le (digits_value 10 xs)) (value_without_zeros ys)
