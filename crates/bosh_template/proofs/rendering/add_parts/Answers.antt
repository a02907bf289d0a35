-- One more part is written.
use Rattle.std.proofs.Common.{◌≡◌, ◌⊎◌, [], sym, rules, inl, inr, Err}
use Rattle.bosh_template.specs.Rendering.{parts_text}
use Rattle.bosh_template.specs.declared.fault.TemplateFault.TheVariants.{Memory}
use Rattle.bosh_template.proofs.RenderingLemmas.{Grows-none, after-nil, IsWritten-more, IsWritten-fault, IsWritten-end}
use Rattle.bosh_template.proofs.rendering.add_parts.Goals as goal

pub loop-part-init : goal.loop-part-init
loop-part-init c = record { text = []; grown = Grows-none c.args.output.now; whole = sym (after-nil (parts_text c.args.env.now c.args.parts.now)) }

pub loop-part-preserved : goal.loop-part-preserved
loop-part-preserved c =
    IsWritten-more c.in_ok-add_part.field-0 c.args.env.now c.args.parts.now c.loop-part.part-index c.part-item.result c.args.output.now c.loop-part.output c.add_part.new.output
    c.loop-part.invariant c.loop-part-test.true c.part-item.is c.in_ok-add_part.ensures

pub returns-in_err-add_part : goal.returns-in_err-add_part
returns-in_err-add_part c =
    let fault = c.in_err-add_part.field-0.0 in
    let told : (fault ≡ Memory) ⊎ (parts_text c.args.env.now c.args.parts.now ≡ Err fault) =
    elim c.in_err-add_part.ensures [
      | inl m ↦ inl m
      | inr t ↦ inr (IsWritten-fault c.args.env.now c.args.parts.now c.loop-part.part-index c.part-item.result c.args.output.now c.loop-part.output fault c.loop-part.invariant c.loop-part-test.true c.part-item.is t)
    ] in
    search (rules, told)

pub returns : goal.returns
returns c = IsWritten-end {T = Unit {0}} tt c.args.env.now c.args.parts.now c.loop-part.part-index c.args.output.now c.loop-part.output c.loop-part.invariant c.loop-part-test.false
