use Rattle.std.proofs.Common.{◌≡◌, ◌++◌}
use Rattle.bosh_yaml.specs.Literal.{line_ends}
use Rattle.bosh_yaml.proofs.literal.push_line_ends.Given as goal

abbrev pub invariant-loop-left : goal.invariant-loop-left
invariant-loop-left l = l.text.items ++ line_ends l.left ≡ l.initial.text.items ++ line_ends l.count

abbrev pub decreases-loop-left : goal.decreases-loop-left
decreases-loop-left l = l.left
