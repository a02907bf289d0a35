use Rattle.std.proofs.Common.{subst, sym}
use Rattle.bosh_release_order.specs.Numbers.{Ascend}
use Rattle.bosh_release_order.proofs.NumberLemmas.{above_has_no_cycle, ranks_ascend}
use Rattle.bosh_release_order.proofs.check.order_by.Goals as goal

pub returns : goal.returns
returns c =
    let graph = c.args.graph.now in
    let numbers = c.args.numbers.now in
    let ascend = ranks_ascend graph numbers c.in_ok-ranks.ranks.items c.requires.above c.in_ok-ranks.ensures in (
      c.in_ok-by_rank.ensures graph c.requires.graph (subst (Ascend graph) (sym c.deref.ensures.value) ascend),
      above_has_no_cycle graph numbers c.requires.above,
    )
