use Rattle.std.proofs.Common.{◌≡◌}
use Rattle.bosh_asks.specs.Recorded.{first_consumer}
use Rattle.bosh_asks.proofs.consumers.first_consumer.Given as goal

-- none so far uses a link that is withdrawn
abbrev pub invariant-loop-row : goal.invariant-loop-row
invariant-loop-row l = first_consumer l.goal l.row-iterator ≡ first_consumer l.goal l.fn.rows
