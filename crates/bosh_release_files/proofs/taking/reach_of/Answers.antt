-- The span of one pattern more.
use Rattle.bosh_release_files.proofs.TakingLemmas.{reach_more, reach_nothing}
use Rattle.bosh_release_files.proofs.taking.reach_of.Goals as goal

pub loop-pattern-init : goal.loop-pattern-init
loop-pattern-init c =
    reach_nothing c.args.files.now c.in_ok-reach.reach.items (c.in_ok-reach.ensures.items_if_clones_equal (λ _ e. e))

pub loop-pattern-preserved : goal.loop-pattern-preserved
loop-pattern-preserved c =
    reach_more c.args.files.now c.args.patterns.now c.loop-pattern.pattern-index c.pattern-item.result c.span_of.result
    c.loop-pattern.reach.items c.add_span.new.reach.items c.loop-pattern-test.true c.pattern-item.is c.span_of.ensures
    c.add_span.ensures c.loop-pattern.invariant
