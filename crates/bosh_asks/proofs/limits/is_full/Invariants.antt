use Rattle.std.proofs.Common.{◌≡◌, ◌+◌, ◌<◌}
use Rattle.std.specs.Prelude.{count_by}
use Rattle.bosh_asks.specs.Recorded.{is_there}
use Rattle.bosh_asks.proofs.limits.is_full.Given as goal

-- so many are there so far
abbrev pub invariant-loop-row : goal.invariant-loop-row
invariant-loop-row l =
    (l.count < 64) × (l.count + count_by is_there l.row-iterator ≡ count_by is_there l.fn.rows)
