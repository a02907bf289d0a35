use Rattle.std.proofs.Common.{◌≡◌, ℕ, ◌≤◌, ◌<◌, false, get_or}
use Rattle.bosh_compile.proofs.level.next_pending.Given as goal

-- no key so far is pending
abbrev pub invariant-loop-place : goal.invariant-loop-place
invariant-loop-place l = (k : ℕ) → l.from ≤ k → k < l.place → get_or l.pending (get_or l.needs k 0) false ≡ false
