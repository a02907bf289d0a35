-- What `parse` reads of a decimal.
use Rattle.std.proofs.Common.{◌≡◌, ℕ, ◌^◌, ◌<◌, ◌≤◌, ◌==◌, ◌&&◌, ◌||◌, Bool, true, false, not, cond, List, [], ◌∷◌, length, Option, Some, None, Result, Ok, Err, refl, sym, ap, ◌∙◌, arith, true≢false, nat_lt}
use Rattle.std.proofs.lemmas.Fmt.{IsAscii-from_digits}
use Rattle.std.proofs.lemmas.Str.{IsUtf8-from_ascii}
use Rattle.std.proofs.lemmas.Str.Parse.{IsNumeralModel, numerals_by_value, tells_all_ascii_digits, parse_digits}
use Rattle.std.specs.Char.{is_ascii_digit}
use Rattle.std.specs.List.{list_all}
use Rattle.std.specs.Option.{SomeIff}
use Rattle.std.specs.Result.{result_ok, OkIff}
use Rattle.std.specs.Str.{all_ascii_digits, IsUtf8}
use Rattle.std.specs.Str.Parse.{digits_value, ParsesUnsigned}
use Rattle.bosh_line_words.specs.Kinds.{is_decimal}

pub list_all-is_ascii_digit : (bs : List ℕ) → list_all is_ascii_digit bs ≡ all_ascii_digits bs
list_all-is_ascii_digit [] = refl
list_all-is_ascii_digit (b ∷ bs) = ap (λ x. is_ascii_digit b && x) (list_all-is_ascii_digit bs)

and-first : (a b : Bool) → (a && b) ≡ true → a ≡ true
and-first true b h = refl
and-first false b h = h

own : IsNumeralModel (λ ds. all_ascii_digits ds ≡ true) (digits_value 10)
own = numerals_by_value _ tells_all_ascii_digits

digits_of : (s : List ℕ) → is_decimal s ≡ true → (all_ascii_digits s ≡ true) × (0 < length s)
digits_of [] h = absurd (true≢false (sym h))
digits_of (c ∷ cs) h = (and-first _ _ h, omega arith)

-- a decimal is a text
pub is_text : (s : List ℕ) → is_decimal s ≡ true → IsUtf8 s
is_text s h = IsUtf8-from_ascii s (IsAscii-from_digits s (own.to s (digits_of s h).0))

ok_if : {E : Type 0} (r : Result ℕ E) (Q R : Type 0) (x : ℕ) → OkIff r Q x → (Q → R) → (R → Q) → SomeIff (result_ok r) R x
ok_if (Ok z) Q R x h to from = (to h.0, h.1)
ok_if (Err e) Q R x h to from = λ k. h (from k)

pub decimal_parsed : {E : Type 0} (s : List ℕ) (r : Result ℕ E) → ParsesUnsigned 64 10 s r → is_decimal s ≡ true → SomeIff (result_ok r) (digits_value 10 s < 2 ^ 64) (digits_value 10 s)
decimal_parsed s r h is =
    let (digits, some) = digits_of s is in
    ok_if r _ _ _ (parse_digits own 64 s r h digits) (λ q. q.1) (λ k. (some, k))
