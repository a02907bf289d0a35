use Rattle.std.proofs.Common.{◌≡◌, ◌++◌, length}
use Rattle.std.specs.Str.{IsUtf8}
use Rattle.bosh_vars.specs.Filled.{joined_text}
use Rattle.bosh_vars.specs.Placeholder.{parts}
use Rattle.bosh_vars.specs.Result.{with_front}
use Rattle.bosh_vars.specs.Table.{found_in}
use Rattle.bosh_vars.proofs.insertion.joined.Given as goal

-- what is left, behind what is filled, is a text, and fills to the whole
abbrev pub invariant-loop-byte : goal.invariant-loop-byte
invariant-loop-byte l =
    (IsUtf8 (l.filled.items ++ l.rest)) × (with_front l.filled.items (joined_text (found_in l.values) (parts l.rest)) ≡ joined_text (found_in l.values) (parts l.text))

abbrev pub decreases-loop-byte : goal.decreases-loop-byte
decreases-loop-byte l = length l.rest
