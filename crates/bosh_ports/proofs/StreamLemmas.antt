-- What a read to the end gives that stops one byte past a limit.
use Rattle.std.proofs.Common.{◌≡◌, ℕ, ◌+◌, ◌≤◌, List, length, take, Option, Some, None, IfSome, option_map}
use Rattle.std.proofs.Common.{sym, ◌∙◌, ap, refl, arith}
use Rattle.std.proofs.lemmas.List.{length-take, take_all}

-- where it stayed within the limit, it has the whole
within_limit : (most limit : ℕ) (whole bytes : List ℕ) →
    most ≡ limit + 1 → bytes ≡ take most whole → length bytes ≤ limit → whole ≡ bytes
within_limit most limit whole bytes past front few =
    let short : length whole ≤ most = omega (arith, ap length front, length-take {A = ℕ} most whole) in
    sym (front ∙ take_all most whole short)

-- the same, of a reader that may tell what it has left
pub whole-within_limit : (known : Option (List ℕ)) (bytes : List ℕ) →
    IfSome (option_map (take 1048577) known) (λ front. bytes ≡ front) → length bytes ≤ 1048576 →
    IfSome known (λ whole. (Some whole ≡ Some bytes) × (length bytes ≤ 1048576))
whole-within_limit None bytes front few = tt
whole-within_limit (Some whole) bytes front few =
    (ap Some (within_limit 1048577 1048576 whole bytes refl front few), few)
