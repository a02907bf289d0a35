use Rattle.std.proofs.Common.{◌≡◌, ◌+◌, length}
use Rattle.bosh_vars.specs.Placeholder.{parts}
use Rattle.bosh_vars.specs.Size.{joined_text_size}
use Rattle.bosh_vars.specs.Table.{found_in}
use Rattle.bosh_vars.proofs.measure.after_joined.Given as goal

-- what is left goes to the parts that are left
abbrev pub invariant-loop-after : goal.invariant-loop-after
invariant-loop-after l =
    l.room + joined_text_size (found_in l.values) (parts l.text) ≡ l.left + joined_text_size (found_in l.values) (parts l.rest)

abbrev pub decreases-loop-after : goal.decreases-loop-after
decreases-loop-after l = length l.rest
