use Rattle.std.proofs.Common.{◌≡◌, ◌≤◌, length}
use Rattle.bosh_yaml.specs.Lines.{skip_spaces}
use Rattle.bosh_yaml.proofs.line.skip_spaces.Given as goal

abbrev pub invariant-loop-rest : goal.invariant-loop-rest
invariant-loop-rest l = (length l.rest ≤ length l.bytes) × (skip_spaces l.rest ≡ skip_spaces l.bytes)

abbrev pub decreases-loop-rest : goal.decreases-loop-rest
decreases-loop-rest l = length l.rest
