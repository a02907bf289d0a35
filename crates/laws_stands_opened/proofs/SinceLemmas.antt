-- What stands below what in the order of deployments.
use Rattle.std.proofs.Common.{◌≡◌, ◌+◌, ◌<◌, ℕ, Bool, true, false, arith, refl}
use Rattle.std.specs.Prelude.{◌==◌, cond, nat_lt}
use Rattle.std.specs.Ordering.{nat_cmp}
use Rattle.std.specs.declared.cmp.Ordering.TheVariants.{Equal, Greater, Less}
use Rattle.std.proofs.lemmas.Bool.{lt-ltb, ltb-true}
use Rattle.bosh_records.specs.Changes.{since_cmp}
use Rattle.bosh_records.specs.declared.records.Since.{Since}
use Rattle.bosh_records.specs.declared.records.Since.TheVariants as sinces

-- ---- what stands below what

lower : (b c : Bool) → cond b Less (cond c Equal Greater) ≡ Less → b ≡ true
lower true c is = refl
lower false true is = absurd cc
lower false false is = absurd cc

below : (a b : ℕ) → nat_cmp a b ≡ Less → a < b
below a b is = ltb-true a b (lower (nat_lt a b) (a == b) is)

is_below : (a b : ℕ) → a < b → nat_cmp a b ≡ Less
is_below a b low = λ j. cond (lt-ltb a b low j) Less (cond (a == b) Equal Greater)

-- nothing stands below what stands below it
pub since_never : (a b : Since) → since_cmp a b ≡ Less → since_cmp b a ≡ Less → ⊥
since_never (sinces.Snapshot a) (sinces.Snapshot b) is other =
    let one : a < b = below a b is in let two : b < a = below b a other in absurd (omega arith)
since_never (sinces.Snapshot a) (sinces.Task b) is other = absurd cc
since_never (sinces.Task a) (sinces.Snapshot b) is other = absurd cc
since_never (sinces.Task a) (sinces.Task b) is other =
    let one : a < b = below a b is in let two : b < a = below b a other in absurd (omega arith)

-- a task stands below the next one, and so does what stands below it
pub since_next : (n : ℕ) → since_cmp (sinces.Task n) (sinces.Task (n + 1)) ≡ Less
since_next n = is_below n (n + 1) (omega arith)

pub since_more : (since : Since) (n : ℕ) → since_cmp since (sinces.Task n) ≡ Less
    → since_cmp since (sinces.Task (n + 1)) ≡ Less
since_more (sinces.Snapshot a) n is = refl
since_more (sinces.Task a) n is = let one : a < n = below a n is in is_below a (n + 1) (omega arith)
