use Rattle.std.proofs.Common.{◌≡◌, ◌+◌, ◌-◌, ◌≤◌, length}
use Rattle.bosh_yaml.specs.Flow.{signs_of}
use Rattle.bosh_yaml.specs.Result.{with_front}
use Rattle.bosh_yaml.proofs.flow.signs.Given as goal

-- each sign took a byte, so what is left is read within as many signs as there were bytes
abbrev pub invariant-loop-rest : goal.invariant-loop-rest
invariant-loop-rest l =
    (length l.signs.items + length l.rest ≤ length l.bytes) × (with_front l.signs.items (signs_of (length l.bytes - length l.signs.items) l.line l.rest) ≡ signs_of (length l.bytes) l.line l.bytes)

abbrev pub decreases-loop-rest : goal.decreases-loop-rest
decreases-loop-rest l = length l.rest
