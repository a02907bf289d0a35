use Rattle.std.proofs.Common.{◌≡◌, ◌++◌}
use Rattle.bosh_asks.specs.Changed.{obsolete_of}
use Rattle.bosh_asks.proofs.obsolete.obsolete_of.Given as goal

-- those so far, and those of the others
abbrev pub invariant-loop-inst : goal.invariant-loop-inst
invariant-loop-inst l = l.obsolete.items ++ obsolete_of l.goal l.inst-iterator ≡ obsolete_of l.goal l.fn.instances
