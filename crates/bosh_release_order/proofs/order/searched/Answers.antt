use Rattle.std.proofs.Common.{length, subst, sym}
use Rattle.bosh_release_order.specs.Numbers.{Ascend}
use Rattle.bosh_release_order.specs.Search.{AreRanks, IsRanked}
use Rattle.bosh_release_order.proofs.OrderLemmas.{counted_ranks_fall, ranked_has_no_cycle}
use Rattle.bosh_release_order.proofs.order.searched.Goals as goal

pub returns-in_ok-by_rank-in-Whole : goal.returns-in_ok-by_rank-in-Whole
returns-in_ok-by_rank-in-Whole c =
    let graph = c.args.graph.now in
    let ranks = c.in-Whole.ranks in
    let are : AreRanks graph ranks (length graph) = subst (IsRanked graph) c.in-Whole.is c.in_ok-ranks.ensures in (
      c.in_ok-by_rank-in-Whole.ensures graph c.requires
          (subst (Ascend graph) (sym c.as_slice.ensures) (counted_ranks_fall graph ranks are)),
      ranked_has_no_cycle graph ranks are,
    )
