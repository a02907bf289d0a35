use Rattle.std.proofs.Common.{◌≡◌, ◌++◌}
use Rattle.std.specs.Prelude.{filter}
use Rattle.std.specs.Slice.Iter.{iter_rest}
use Rattle.bosh_views.specs.View.{is_offered}
use Rattle.bosh_views.proofs.views.known_offers.Given as goal

abbrev pub invariant-loop-offer : goal.invariant-loop-offer
invariant-loop-offer l =
    l.offers.items ++ filter (λ offer. is_offered l.row.goal.offers offer) (iter_rest l.offer-iterator)
    ≡ filter (λ offer. is_offered l.row.goal.offers offer) l.row.shared
