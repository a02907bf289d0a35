use Rattle.bosh_release_order.specs.Search.{IsSearch, work_left}
use Rattle.bosh_release_order.proofs.search.reach.Given as goal

abbrev pub invariant-loop-at : goal.invariant-loop-at
invariant-loop-at l = IsSearch l.graph l.place l.found.items l.work.items

abbrev pub decreases-loop-at : goal.decreases-loop-at
decreases-loop-at l = work_left l.found.items l.work.items
