use Rattle.std.proofs.Common.{◌≡◌}
use Rattle.std.specs.Cmp.Lexicographic.{pointwise}
use Rattle.std.specs.Slice.Iter.{iter_rest}
use Rattle.bosh_rows.specs.Same.{same_inst}
use Rattle.bosh_claim.specs.Opening.{changed_in}
use Rattle.bosh_claim.proofs.opening.are_changed.Given as goal

abbrev pub invariant-loop-want : goal.invariant-loop-want
invariant-loop-want l =
    pointwise same_inst l.left (changed_in l.records l.all (iter_rest l.want-iterator))
    ≡ pointwise same_inst l.changed (changed_in l.records l.all l.goal.rows)
