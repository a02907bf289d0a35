-- What `parse` reads is the integer that a plain scalar writes.
use Rattle.std.proofs.Common.{◌≡◌, ℕ, ◌<◌, ◌≤◌, ◌+◌, ◌^◌, ℤ, Bool, true, false, ◌&&◌, List, [], ◌∷◌, Option, Some, None, Result, Ok, Err, arith, refl, sym, ◌∙◌, ap, cond, drop, length, get_or, codes, w64}
use Rattle.std.specs.Result.{result_ok, OkIff}
use Rattle.std.specs.Str.{bytes_eq, all_ascii_digits}
use Rattle.std.specs.Str.Parse.{digits_value, starts_with_minus, ParsesSigned}
use Rattle.std.proofs.lemmas.Str.Parse.{IsNumeralModel, numerals_by_value, tells_all_ascii_digits, parse_signed_minus, parse_signed_digits}
use Rattle.std.proofs.lemmas.Bool.Decides.{nat_tests}
use Rattle.std.specs.List.{list_all}
use Rattle.std.specs.Char.{is_ascii_digit}
use Rattle.bosh_yaml.specs.Scalar.{is_counting, number_below, negated, unsigned, integer_of, digits_of}

own : IsNumeralModel (λ ds. all_ascii_digits ds ≡ true) (digits_value 10)
own = numerals_by_value _ tells_all_ascii_digits

-- a counted number is below its bound, and is there only then
pub counted_at : (bound : ℕ) (ds : List ℕ) → is_counting ds ≡ true → digits_value 10 ds < bound → number_below bound ds ≡ Some (digits_value 10 ds)
counted_at bound ds c h = rw c (grind (arith, nat_tests))

pub counted_over : (bound : ℕ) (ds : List ℕ) → bound ≤ digits_value 10 ds → number_below bound ds ≡ None
counted_over bound ds h = grind (arith, nat_tests)

counted_none : (bound : ℕ) (ds : List ℕ) → is_counting ds ≡ false → number_below bound ds ≡ None
counted_none bound ds h = rw h

all_digits : (ds : List ℕ) → is_counting ds ≡ true → (all_ascii_digits ds ≡ true) × (0 < length ds)
all_digits [] h = cc
all_digits (b ∷ ds) h = (grind (arith, nat_tests), omega arith)

pub ok_if : {E : Type 0} (r : Result ℤ E) (Q : Type 0) (x : ℤ) (y : Option ℤ) → OkIff r Q x → (Q → Some x ≡ y) → ((Q → ⊥) → None ≡ y) → result_ok r ≡ y
ok_if (Ok z) Q x y h have lack = ap (λ n. Some n) h.1 ∙ have h.0
ok_if (Err e) Q x y h have lack = lack h

negative : {E : Type 0} (s : List ℕ) (r : Result ℤ E) → ParsesSigned w64 10 s r → get_or s 0 0 ≡ 45 → is_counting (drop 1 s) ≡ true → result_ok r ≡ negated (number_below (2 ^ 63 + 1) (drop 1 s))
negative s r h m c =
    let ds = all_digits (drop 1 s) c in
    ok_if r _ _ _ (parse_signed_minus own w64 s r h m)
    (λ q. ap negated (sym (counted_at (2 ^ 63 + 1) (drop 1 s) c (omega (arith, q.2)))))
    (λ no. ap negated (sym (counted_over (2 ^ 63 + 1) (drop 1 s) (omega (arith, λ (k : digits_value 10 (drop 1 s) ≤ 2 ^ 63). no (ds.0, ds.1, k))))))

positive : {E : Type 0} (s : List ℕ) (r : Result ℤ E) → ParsesSigned w64 10 s r → is_counting s ≡ true → result_ok r ≡ unsigned (number_below (2 ^ 63) s)
positive s r h c =
    let ds = all_digits s c in
    ok_if r _ _ _ (parse_signed_digits own w64 s r h ds.0)
    (λ q. ap unsigned (sym (counted_at (2 ^ 63) s c (omega (arith, q.1)))))
    (λ no. ap unsigned (sym (counted_over (2 ^ 63) s (omega (arith, λ (k : digits_value 10 s < 2 ^ 63). no (ds.1, k))))))

parsed_signed : {E : Type 0} (s : List ℕ) (r : Result ℤ E) (minus : Bool) → ParsesSigned w64 10 s r → minus ≡ starts_with_minus s → is_counting (cond minus (drop 1 s) s) ≡ true → result_ok r ≡ cond minus (negated (number_below (2 ^ 63 + 1) (drop 1 s))) (unsigned (number_below (2 ^ 63) s))
parsed_signed s r true h m c = negative s r h (grind (arith, nat_tests)) c
parsed_signed s r false h m c = positive s r h c

pub integer_parsed : {E : Type 0} (s : List ℕ) (r : Result ℤ E) → ParsesSigned w64 10 s r → bytes_eq s (codes "0") ≡ false → is_counting (digits_of s) ≡ true → result_ok r ≡ integer_of s
integer_parsed s r h z c = rw z (parsed_signed s r (starts_with_minus s) h refl c)

none_signed : (s : List ℕ) (minus : Bool) → is_counting (cond minus (drop 1 s) s) ≡ false → None ≡ cond minus (negated (number_below (2 ^ 63 + 1) (drop 1 s))) (unsigned (number_below (2 ^ 63) s))
none_signed s true c = ap negated (sym (counted_none (2 ^ 63 + 1) (drop 1 s) c))
none_signed s false c = ap unsigned (sym (counted_none (2 ^ 63) s c))

pub integer_none : (s : List ℕ) → bytes_eq s (codes "0") ≡ false → is_counting (digits_of s) ≡ false → None ≡ integer_of s
integer_none s z c = rw z (none_signed s (starts_with_minus s) c)

pub list_all-is_ascii_digit : (bs : List ℕ) → list_all is_ascii_digit bs ≡ all_ascii_digits bs
list_all-is_ascii_digit [] = refl
list_all-is_ascii_digit (b ∷ bs) = ap (λ x. is_ascii_digit b && x) (list_all-is_ascii_digit bs)
