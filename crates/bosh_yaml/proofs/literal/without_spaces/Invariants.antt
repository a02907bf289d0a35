use Rattle.std.proofs.Common.{◌≡◌}
use Rattle.bosh_yaml.specs.Literal.{without_spaces}
use Rattle.bosh_yaml.proofs.literal.without_spaces.Given as goal

abbrev pub invariant-loop-left : goal.invariant-loop-left
invariant-loop-left l = without_spaces l.left l.rest ≡ without_spaces l.count l.line

abbrev pub decreases-loop-left : goal.decreases-loop-left
decreases-loop-left l = l.left
