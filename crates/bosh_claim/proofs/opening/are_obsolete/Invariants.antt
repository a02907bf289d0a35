use Rattle.std.proofs.Common.{◌≡◌}
use Rattle.std.specs.Cmp.Lexicographic.{pointwise}
use Rattle.bosh_rows.specs.Same.{same_inst}
use Rattle.bosh_claim.specs.Opening.{obsolete_in}
use Rattle.bosh_claim.proofs.opening.are_obsolete.Given as goal

abbrev pub invariant-loop-inst : goal.invariant-loop-inst
invariant-loop-inst l =
    pointwise same_inst l.left (obsolete_in l.goal l.inst-iterator)
    ≡ pointwise same_inst l.obsolete (obsolete_in l.goal l.records.instances.by_inst.entries)
