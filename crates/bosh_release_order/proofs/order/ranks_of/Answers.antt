use Rattle.std.proofs.Common.{subst}
use Rattle.bosh_release_order.specs.Search.{IsRankAt}
use Rattle.bosh_release_order.proofs.OrderLemmas.{first_of}
use Rattle.bosh_release_order.proofs.order.ranks_of.Goals as goal

pub returns-in-None : goal.returns-in-None
returns-in-None c = record {
  on_cycle = subst (IsRankAt c.args.graph.now c.loop-place.place) c.in-None.is c.in_ok-rank.ensures;
  first = first_of c.args.graph.now c.loop-place.ranks.items c.loop-place.place c.loop-place.invariant;
}
