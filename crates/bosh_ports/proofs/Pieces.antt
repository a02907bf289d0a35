-- Pieces of a list, as a source gives them.
use Rattle.std.proofs.Common.{◌≡◌, ℕ, ◌+◌, List, ◌++◌, take, drop, arith}
use Rattle.std.proofs.lemmas.List.{take-append-drop}
use Rattle.std.proofs.lemmas.Grind.{common_steps}

-- what is left after some were given, and after n more with these in front
pub split_at : {A : Type 0} (given n : ℕ) (xs : List A) → drop given xs ≡ take n (drop given xs) ++ drop (given + n) xs
split_at given n xs = grind (arith, common_steps, take-append-drop n (drop given xs))
