use Rattle.std.proofs.Common.{◌≡◌, ◌≤◌, length}
use Rattle.bosh_yaml.specs.Lines.{skip_line_ends}
use Rattle.bosh_yaml.proofs.line.skip_line_ends.Given as goal

abbrev pub invariant-loop-rest : goal.invariant-loop-rest
invariant-loop-rest l = (length l.rest ≤ length l.bytes) × (skip_line_ends l.rest ≡ skip_line_ends l.bytes)

abbrev pub decreases-loop-rest : goal.decreases-loop-rest
decreases-loop-rest l = length l.rest
