-- The text is whole, and within the limit or too long.
use Rattle.std.proofs.Common.{ap, sym, subst, ◌∙◌}
use Rattle.bosh_template.specs.Answer.{IsAnswer}
use Rattle.bosh_template.specs.Rendering.{limited, parts_text}
use Rattle.bosh_template.proofs.RenderingLemmas.{Adds-ok}
use Rattle.bosh_template.proofs.rendering.render.Goals as goal

pub returns : goal.returns
returns c =
    let (text, told, grows) = Adds-ok c.in_ok-add_parts.field-0 c.new-output.result c.add_parts.new.output (parts_text c.args.env.now c.as_slice.result.now) c.in_ok-add_parts.ensures in
    let whole = ap limited (ap (parts_text c.args.env.now) (sym c.as_slice.ensures) ∙ told) in
    subst (IsAnswer c.into_text.result) (sym whole) (c.into_text.ensures text (grows _ c.new-output.ensures))
