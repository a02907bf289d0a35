use Rattle.std.proofs.Common.{◌≡◌, ◌≤◌, length}
use Rattle.bosh_yaml.specs.Quotes.{after_text, double_quoted}
use Rattle.bosh_yaml.proofs.quoted.double_quoted.Given as goal

abbrev pub invariant-loop-run : goal.invariant-loop-run
invariant-loop-run l = (length l.rest ≤ length l.bytes) × (after_text l.text.items (double_quoted l.rest) ≡ double_quoted l.bytes)

abbrev pub decreases-loop-run : goal.decreases-loop-run
decreases-loop-run l = length l.rest
