-- The sort by the first address gives the order by it.
use Rattle.std.proofs.Common.{rules}
use Rattle.std.proofs.lemmas.List.Sorted.{IsNonDecreasingBy-from_sort_by_key}
use Rattle.bosh_bands.specs.Order.{first_number}
use Rattle.bosh_bands.proofs.order.in_order.Goals as goal

pub returns-clause-order : goal.returns-clause-order
returns-clause-order c = IsNonDecreasingBy-from_sort_by_key first_number _ c.in_ok-sort_by_key.ensures.sorted (λ a r q k. search rules)
