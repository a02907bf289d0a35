-- The bands are those of the subnet in another order.
use Rattle.std.proofs.Common.{◌&&◌, ap, ◌∙◌}
use Rattle.bosh_base.specs.Plan.{is_in_some}
use Rattle.bosh_bands.specs.Least.{least}
use Rattle.bosh_cloudcfg.proofs.PlaceLemmas.{static_reserved-ordered}
use Rattle.bosh_cloudcfg.proofs.place.static_reserved.Goals as goal

pub returns : goal.returns
returns c =
    c.first_common.ensures
    ∙ ap (λ bands. least (λ addr. is_in_some addr bands && is_in_some addr c.as_slice-3.result.now)) c.as_slice-2.ensures.value
    ∙ ap (λ bands. least (λ addr. is_in_some addr c.in_ok-fixed.fixed.items && is_in_some addr bands)) c.as_slice-3.ensures.value
    ∙ static_reserved-ordered c.args.subnet.now c.in_ok-from_slice.field-0.items c.in_ok-fixed.fixed.items c.in_ok-reserved_bands.field-0.items c.in_ok-reserved.reserved.items
    (c.in_ok-from_slice.ensures.items ∙ c.as_slice.ensures) c.in_ok-fixed.ensures.same c.in_ok-reserved_bands.ensures c.in_ok-reserved.ensures.same
