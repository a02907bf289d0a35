use Rattle.std.proofs.Common.{List, map, subst, sym}
use Rattle.std.specs.List.Sorted.{IsPermutation}
use Rattle.std.proofs.lemmas.List.Sorted.{IsPermutation-map}
use Rattle.bosh_session.proofs.OrderLemmas.{order_by}
use Rattle.bosh_session.specs.Running.{running_in}
use Rattle.bosh_session.specs.declared.together.Placed as placed
use Rattle.bosh_session.specs.declared.together.Running as running
use Rattle.bosh_session.proofs.together.by_end.Goals as goal

pub returns : goal.returns
returns c = record {
  order = order_by (λ order. order.items) c.args.running.now c.as_slice.result.now c.without_places.result
      (subst (λ (l : List placed.Placed). IsPermutation c.args.running.now (map running_in l)) (sym c.as_slice.ensures.value)
      (subst (λ (l : List running.Running). IsPermutation l (map running_in c.sort_by_key.new.self.items)) c.in_ok-ended.ensures.same
      (IsPermutation-map running_in c.in_ok-ended.ended.items c.sort_by_key.new.self.items c.sort_by_key.ensures.permutation)))
      c.without_places.ensures.same;
}
