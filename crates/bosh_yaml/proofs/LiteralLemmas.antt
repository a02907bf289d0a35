-- One more LF before a line of a literal.
use Rattle.std.proofs.Common.{◌≡◌, ℕ, zero, suc, ◌-◌, ◌<◌, List, [], ◌∷◌, ◌++◌, append_assoc, arith}
use Rattle.bosh_yaml.specs.Literal.{line_ends}

pub line_ends_more : (xs : List ℕ) (n : ℕ) → 0 < n → (xs ++ 10 ∷ []) ++ line_ends (n - 1) ≡ xs ++ line_ends n
line_ends_more xs zero h = absurd (omega arith)
line_ends_more xs (suc n) h = let e : suc n - 1 ≡ n = omega arith in rw e (append_assoc xs (10 ∷ []) (line_ends n))
