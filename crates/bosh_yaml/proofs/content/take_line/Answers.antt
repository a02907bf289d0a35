use Rattle.std.proofs.Common.{sym, arith, ◌∙◌}
use Rattle.bosh_yaml.proofs.ContentLemmas.{dash_then}
use Rattle.bosh_yaml.proofs.content.take_line.Goals as goal

pub loop-b-preserved : goal.loop-b-preserved
loop-b-preserved c =
    let so_far = rw c.in-Some.ensures.cases.0 at c.loop-b.invariant.1 in (
      omega (arith, c.in-Some.ensures.cases.1, c.loop-b.invariant.0),
      dash_then c.args.line c.loop-b.column c.loop-b.owner c.loop-b.frames.items c.place_dash.new.frames.items c.loop-b.events.items c.place_dash.new.events.items c.in-Some.b.now c.in-Some.after.now c.if-b-eq45.true (sym c.if-is_gap.ensures) c.in_ok-place_dash.ensures ∙ so_far,
    )
