use Rattle.std.proofs.Common.{ℕ, ◌<◌, ◌≤◌}
use Rattle.std.specs.List.{All}
use Rattle.bosh_release_order.specs.Graph.{needs_of}
use Rattle.bosh_release_order.specs.Numbers.{number_of}
use Rattle.bosh_release_order.proofs.check.never_rise.Given as goal

-- the places so far need none of a greater number
abbrev pub invariant-loop-place : goal.invariant-loop-place
invariant-loop-place l =
    (k : ℕ) → k < l.place → All (λ need. number_of l.numbers need ≤ number_of l.numbers k) (needs_of l.graph k)
