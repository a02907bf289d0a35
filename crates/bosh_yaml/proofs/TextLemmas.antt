-- The test for UTF-8 says what it means.
use Rattle.std.proofs.Common.{◌≡◌, ℕ, Bool, true, false, List, Ok, refl}
use Rattle.std.proofs.Math.Logic.{∥∥₁_elim}
use Rattle.std.specs.Coded.{Coded-set, coded_bool}
use Rattle.std.specs.Str.{IsUtf8, is_utf8}
use Rattle.std.proofs.lemmas.Str.{IsUtf8-from_is_utf8, is_utf8-from_IsUtf8}
use Rattle.bosh_yaml.specs.Word.{text_of, syntax_fault}

pub text_of-utf8 : (line : ℕ) (bs : List ℕ) → IsUtf8 bs → text_of line bs ≡ Ok bs
text_of-utf8 line bs h = rw (is_utf8-from_IsUtf8 bs h)

is_not : (b : Bool) → (b ≡ true → ⊥) → b ≡ false
is_not true h = absurd (h refl)
is_not false h = refl

pub text_of-other : (line : ℕ) (bs : List ℕ) → (IsUtf8 bs → ⊥) → text_of line bs ≡ syntax_fault line
text_of-other line bs h = rw (is_not (is_utf8 bs) (λ e. h (IsUtf8-from_is_utf8 bs e)))

pub ruleset texts = (text_of-utf8, text_of-other)

pub is_utf8-true : (bs : List ℕ) → IsUtf8 bs → is_utf8 bs ≡ true
is_utf8-true = is_utf8-from_IsUtf8

pub is_utf8-false : (bs : List ℕ) → (IsUtf8 bs → ⊥) → is_utf8 bs ≡ false
is_utf8-false bs h = is_not (is_utf8 bs) (λ e. h (IsUtf8-from_is_utf8 bs e))

pub ruleset tests_text = (is_utf8-true, is_utf8-false)

-- the bytes of a string are UTF-8, as its test says
pub utf8_of_string : (bs : List ℕ) → ∥ IsUtf8 bs ∥₁ → IsUtf8 bs
utf8_of_string bs h = IsUtf8-from_is_utf8 bs (∥∥₁_elim h (Coded-set coded_bool (is_utf8 bs) true) (is_utf8-from_IsUtf8 bs))
