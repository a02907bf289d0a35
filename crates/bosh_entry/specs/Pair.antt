-- How two values that stand one after the other are spelled.
use Rattle.std.specs.Prelude.{ℕ, Bool, ◌&&◌, List, ◌++◌}
use Rattle.bosh_entry.specs.Reading.{Reader, making, ◌with◌}

-- the first, and the second
abbrev pub pair : {A B : Type 0} → (A → List ℕ) → (B → List ℕ) → A × B → List ℕ
pair spelling other p = spelling p.0 ++ other p.1

abbrev pub is_pair : {A B : Type 0} → (A → Bool) → (B → Bool) → A × B → Bool
is_pair test other p = test p.0 && other p.1

unfoldable pub pair_at : {A B : Type 0} → Reader A → Reader B → Reader (A × B)
pair_at reader other = making (λ first second. (first, second)) with reader with other
