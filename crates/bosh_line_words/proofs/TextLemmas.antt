-- The test for UTF-8 says what it means.
use Rattle.std.proofs.Common.{◌≡◌, ℕ, Bool, true, false, List, refl}
use Rattle.std.specs.Str.{IsUtf8, is_utf8}
use Rattle.std.proofs.lemmas.Str.{IsUtf8-from_is_utf8, is_utf8-from_IsUtf8}

is_not : (b : Bool) → (b ≡ true → ⊥) → b ≡ false
is_not true h = absurd (h refl)
is_not false h = refl

pub is_utf8-true : (bs : List ℕ) → IsUtf8 bs → is_utf8 bs ≡ true
is_utf8-true = is_utf8-from_IsUtf8

pub is_utf8-false : (bs : List ℕ) → (IsUtf8 bs → ⊥) → is_utf8 bs ≡ false
is_utf8-false bs h = is_not (is_utf8 bs) (λ e. h (IsUtf8-from_is_utf8 bs e))

pub ruleset tests_text = (is_utf8-true, is_utf8-false)
