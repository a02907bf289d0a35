-- The set has the noted name and those before it.
use Rattle.std.proofs.Common.{true, subst}
use Rattle.std.specs.BTreeSet.{Updates}
use Rattle.std.specs.Cmp.Lexicographic.{slice_cmp}
use Rattle.std.specs.Ordering.{nat_cmp}
use Rattle.bosh_fields.proofs.DistinctLemmas.{HasNames-more}
use Rattle.bosh_fields.proofs.distinct.note_name.Goals as goal

pub returns-then-branch-clause-noted : goal.returns-then-branch-clause-noted
returns-then-branch-clause-noted c = λ before has.
    HasNames-more before c.args.name.now c.args.seen.now c.insert.new.self has
    (subst (λ name. Updates (slice_cmp nat_cmp) c.args.seen.now c.insert.new.self name true) c.in_ok-copy.ensures c.in_ok-insert.ensures.updates)
