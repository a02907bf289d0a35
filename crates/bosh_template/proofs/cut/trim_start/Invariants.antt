use Rattle.std.proofs.Common.{◌≡◌, length}
use Rattle.bosh_ip.specs.Bytes.{without_leading}
use Rattle.bosh_template.proofs.cut.trim_start.Given as goal

abbrev pub invariant-loop-text : goal.invariant-loop-text
invariant-loop-text l = without_leading 32 l.text ≡ without_leading 32 l.fn.text

abbrev pub decreases-loop-text : goal.decreases-loop-text
decreases-loop-text l = length l.text
