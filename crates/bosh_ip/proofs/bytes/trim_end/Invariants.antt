use Rattle.std.proofs.Common.{◌≡◌, length, reverse}
use Rattle.bosh_ip.specs.Bytes.{without_leading}
use Rattle.bosh_ip.proofs.bytes.trim_end.Given as goal

abbrev pub invariant-loop-text : goal.invariant-loop-text
invariant-loop-text l = without_leading 32 (reverse l.text) ≡ without_leading 32 (reverse l.fn.text)

abbrev pub decreases-loop-text : goal.decreases-loop-text
decreases-loop-text l = length l.text
