use Rattle.std.proofs.Common.{◌≡◌, drop}
use Rattle.bosh_yaml.specs.Literal.{is_spaces}
use Rattle.bosh_yaml.proofs.literal.is_spaces.Given as goal

abbrev pub invariant-loop-b : goal.invariant-loop-b
invariant-loop-b l = is_spaces (drop l.b-index l.line) ≡ is_spaces l.line
