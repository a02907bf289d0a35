use Rattle.std.proofs.Common.{◌≡◌}
use Rattle.std.specs.Option.{option_copied}
use Rattle.bosh_asks.specs.Recorded.{holder}
use Rattle.bosh_asks.proofs.locks.holder.Given as goal

-- none so far has the lock
abbrev pub invariant-loop-row : goal.invariant-loop-row
invariant-loop-row l = holder (option_copied l.dep) l.row-iterator ≡ holder (option_copied l.dep) l.fn.tasks
