use Rattle.std.proofs.Common.{◌≡◌, ◌+◌, length}
use Rattle.bosh_yaml.specs.Literal.{indentation}
use Rattle.bosh_yaml.proofs.literal.indentation.Given as goal

abbrev pub invariant-loop-rest : goal.invariant-loop-rest
invariant-loop-rest l = (l.count + length l.rest ≡ length l.line) × (l.count + indentation l.rest ≡ indentation l.line)

abbrev pub decreases-loop-rest : goal.decreases-loop-rest
decreases-loop-rest l = length l.rest
