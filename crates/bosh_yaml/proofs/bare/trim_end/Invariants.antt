use Rattle.std.proofs.Common.{◌≡◌, ◌≤◌, length, take}
use Rattle.bosh_yaml.specs.Bare.{trim_end}
use Rattle.bosh_yaml.proofs.bare.trim_end.Given as goal

abbrev pub invariant-loop-len : goal.invariant-loop-len
invariant-loop-len l = (l.len ≤ length l.bytes) × (trim_end (take l.len l.bytes) ≡ trim_end l.bytes)

abbrev pub decreases-loop-len : goal.decreases-loop-len
decreases-loop-len l = l.len
