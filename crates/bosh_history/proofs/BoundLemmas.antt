-- Tests of all numbers up to a last one.
use Rattle.std.proofs.Common.{◌≡◌, ℕ, Bool, true, false, [], ◌∷◌, refl, arith}
use Prim.Native.Nat.{zero, suc}
use Rattle.std.specs.Prelude.{◌≤◌}
use Rattle.std.specs.List.{list_all, list_any}
use Rattle.std.proofs.lemmas.Bool.Decides.{eqb_tells}
use Rattle.std.proofs.lemmas.List.Folds.{list_all-append, list_any-append}
use Rattle.bosh_base.specs.Cloud.{numbers_to}

-- a test that holds of all numbers up to the last holds of each
pub all_to : (p : ℕ → Bool) (last n : ℕ) → list_all p (numbers_to last) ≡ true → 1 ≤ n → n ≤ last → p n ≡ true
all_to p zero n all low high = absurd (omega arith)
all_to p (suc last) n all low high = grind (arith, list_all-append, all_to p last n, eqb_tells n (suc last))

-- .. and one that holds of none fails at each
pub none_to : (p : ℕ → Bool) (last n : ℕ) → list_any p (numbers_to last) ≡ false → 1 ≤ n → n ≤ last → p n ≡ false
none_to p zero n none low high = absurd (omega arith)
none_to p (suc last) n none low high = grind (arith, list_any-append p (numbers_to last) (suc last ∷ []), none_to p last n, eqb_tells n (suc last))

-- a test that holds of each number up to the last holds of all
pub each_to : (p : ℕ → Bool) (last : ℕ) → ((n : ℕ) → 1 ≤ n → n ≤ last → p n ≡ true) → list_all p (numbers_to last) ≡ true
each_to p zero each = refl
each_to p (suc last) each =
    grind (arith, list_all-append, each (suc last), each_to p last (λ n low high. each n low (omega arith)))
