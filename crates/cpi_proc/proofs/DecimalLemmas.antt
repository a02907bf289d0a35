-- Numbers in decimal.
use Rattle.std.proofs.Common.{◌≡◌, ◌<◌, ◌^◌, ℕ, Bool, true, false, ◌&&◌, cond, List, Option, Some, None, Result, Ok, Err, decimal, refl, sym, ap, ◌∙◌, ltb}
use Rattle.std.specs.Str.{bytes_eq}
use Rattle.std.specs.Str.Parse.{ParsesUnsigned, digits_value}
use Rattle.std.proofs.lemmas.Bool.{and_from, and_parts, and_right, cases_Bool, lt-ltb, ltb-true}
use Rattle.std.proofs.lemmas.Fmt.{decimal_is_IsNumeral, parse-decimal}
use Rattle.std.proofs.lemmas.Slice.Eq.{bytes_eq-Decides}
use Rattle.cpi_wire.specs.Number.{is_number}
use Rattle.cpi_wire.proofs.CodingLemmas.{chosen}
use Rattle.cpi_proc.specs.Decimal.{number_in}

pub number_taken : (text : List ℕ) (n : ℕ) → number_in text ≡ Some n → (text ≡ decimal n) × (is_number n ≡ true)
unfolding number_in
number_taken text n e =
    let m = digits_value 10 text in
    let parts = chosen (is_number m && bytes_eq (decimal m) text) m n e in
    let both = and_parts (is_number m) (bytes_eq (decimal m) text) parts.0 in
    let same : decimal m ≡ text = (bytes_eq-Decides (decimal m) text).0 both.1 in
    (sym same ∙ ap decimal parts.1, ap is_number (sym parts.1) ∙ both.0)

pub number_again : (n : ℕ) → is_number n ≡ true → number_in (decimal n) ≡ Some n
unfolding number_in
number_again n h =
    let value : digits_value 10 (decimal n) ≡ n = (decimal_is_IsNumeral n (ltb-true n (2 ^ 64) h)).1 in
    let same : bytes_eq (decimal n) (decimal n) ≡ true = (bytes_eq-Decides (decimal n) (decimal n)).1 refl in
    rw (value, h, same) refl

-- a number that was parsed, and whose decimal is the text
pub number_parsed : (text : List ℕ) (n : ℕ) → n < 2 ^ 64 → bytes_eq (decimal n) text ≡ true → number_in text ≡ Some n
number_parsed text n fits e =
    let same : decimal n ≡ text = (bytes_eq-Decides (decimal n) text).0 e in
    ap number_in (sym same) ∙ number_again n (lt-ltb n (2 ^ 64) fits)

-- What was read is what is parsed.
pub number_parses : {E : Type 0} (text : List ℕ) (r : Result ℕ E) (n : ℕ) → ParsesUnsigned 64 10 text r → number_in text ≡ Some n → (r ≡ Ok n) × (bytes_eq (decimal n) text ≡ true)
number_parses text r n p e =
    let t = number_taken text n e in
    let fits : n < 2 ^ 64 = ltb-true n (2 ^ 64) t.1 in
    (parse-decimal 64 n text r fits fits t.0 p, (bytes_eq-Decides (decimal n) text).1 (sym t.0))

none_unless : (o : Option ℕ) → ((n : ℕ) → o ≡ Some n → ⊥) → o ≡ None
none_unless None h = refl
none_unless (Some n) h = absurd (h n refl)

-- a text that is not parsed
pub number_refused : {E : Type 0} (text : List ℕ) (r : Result ℕ E) (e : E) → ParsesUnsigned 64 10 text r → r ≡ Err e → number_in text ≡ None
number_refused text r e p is = none_unless (number_in text) (λ n h. let parsed = (number_parses text r n p h).0 in cc)

abbrev or_zero : {E : Type 0} → Result ℕ E → ℕ
or_zero (Ok n) = n
or_zero (Err e) = 0

-- a text that is parsed as a number whose decimal it is not
pub number_other : {E : Type 0} (text : List ℕ) (r : Result ℕ E) (m : ℕ) → ParsesUnsigned 64 10 text r → r ≡ Ok m → bytes_eq (decimal m) text ≡ false → number_in text ≡ None
number_other text r m p is other =
    none_unless (number_in text) (λ n h.
    let parsed = number_parses text r n p h in
    let same : m ≡ n = ap or_zero (sym is) ∙ ap or_zero parsed.0 in
    let yes : bytes_eq (decimal m) text ≡ true = ap (λ k. bytes_eq (decimal k) text) same ∙ parsed.1 in
    cc)
