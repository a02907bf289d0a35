use Rattle.std.proofs.Common.{◌≡◌, ◌∙◌, ap, List, map, subst, sym}
use Rattle.std.specs.List.Sorted.{IsPermutation}
use Rattle.std.proofs.lemmas.Result.{IfOk-weaker}
use Rattle.bosh_release_order.specs.Graph.{Graph, IsGraph, IsOrder}
use Rattle.bosh_release_order.specs.Numbers.{Ascend}
use Rattle.bosh_release_order.specs.declared.order.Ranked.{Ranked}
use Rattle.bosh_release_order.proofs.OrderLemmas.{sorted_is_order}
use Rattle.bosh_release_order.proofs.order.by_rank.Goals as goal

pub returns : goal.returns
returns c =
    let ranks = c.args.ranks.now in
    let sorted = c.sort.new.self.items in
    let moved = subst (λ (all : List Ranked). IsPermutation all sorted) c.in_ok-sorted.ensures.items c.in_ok-sort.ensures.permutation in
    IfOk-weaker c.places_of.result (λ places. places ≡ map (λ (it : Ranked). it.place) c.deref.result.now)
    (λ places. (graph : Graph) → IsGraph graph → Ascend graph ranks → IsOrder graph places)
    (λ places is graph well are. subst (IsOrder graph) (sym (is ∙ ap (map (λ (it : Ranked). it.place)) c.deref.ensures.value))
    (sorted_is_order graph ranks sorted well are moved c.in_ok-sort.ensures.sorted))
    c.places_of.ensures
