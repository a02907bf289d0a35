use Rattle.std.proofs.Common.{◌≡◌, ◌≤◌, length}
use Rattle.bosh_yaml.specs.Quotes.{after_text, single_quoted}
use Rattle.bosh_yaml.proofs.quoted.single_quoted.Given as goal

abbrev pub invariant-loop-run : goal.invariant-loop-run
invariant-loop-run l = (length l.rest ≤ length l.bytes) × (after_text l.text.items (single_quoted l.rest) ≡ single_quoted l.bytes)

abbrev pub decreases-loop-run : goal.decreases-loop-run
decreases-loop-run l = length l.rest
