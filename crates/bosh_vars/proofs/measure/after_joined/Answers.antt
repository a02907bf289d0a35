use Rattle.std.proofs.Common.{◌≡◌, ◌+◌, arith, ap, sym}
use Rattle.bosh_vars.specs.Placeholder.{parts}
use Rattle.bosh_vars.specs.Size.{inner_size, joined_text_size}
use Rattle.bosh_vars.specs.Table.{found_in}
use Rattle.bosh_vars.proofs.PlaceholderLemmas.{parts-placeholder}
use Rattle.bosh_vars.proofs.measure.after_joined.Goals as goal

pub loop-after-preserved-in-Some-placeholder_at : goal.loop-after-preserved-in-Some-placeholder_at
loop-after-preserved-in-Some-placeholder_at c =
    let values = found_in c.args.values.now in
    let found = c.in-Some-placeholder_at in
    let rest = c.loop-after.rest.now in
    let step : joined_text_size values (parts rest) ≡ inner_size (values found.name.now) + joined_text_size values (parts found.after.now) =
    ap (joined_text_size values) (parts-placeholder rest found.name.now found.after.now (sym found.ensures.name) found.ensures.parts) in
    omega (arith, step, c.loop-after.invariant, c.inner_len_of.ensures, c.in_ok-room-in-Some-placeholder_at.ensures)
