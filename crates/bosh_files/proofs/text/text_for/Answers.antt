-- What is read is what the text spells, or the place where it spells nothing.
use Rattle.std.proofs.Common.{◌≡◌, ◌⊎◌, ◌∙◌, ℕ, List, Err, ap, inl, inr, rules, subst, sym}
use Rattle.bosh_template.specs.Answer.{IsAnswer}
use Rattle.bosh_template.specs.declared.fault.TemplateFault.TheVariants.{Memory}
use Rattle.bosh_template.specs.declared.fault.TemplateFault.{TemplateFault}
use Rattle.bosh_files.specs.Files.{rendered_parts, text_for}
use Rattle.bosh_files.proofs.ParsedLemmas.{parsed-refused, parsed-spelled}
use Rattle.bosh_files.proofs.text.text_for.Goals as goal

pub returns-in_err-template : goal.returns-in_err-template
returns-in_err-template c =
    let env = c.args.env.now in
    let fault = c.in_err-template.field-0.0 in
    let told : (fault ≡ Memory) ⊎ (text_for env c.args.text.now ≡ Err fault) =
    subst (λ (text : List ℕ). (fault ≡ Memory) ⊎ (text_for env text ≡ Err fault)) c.as_slice.ensures
    (elim c.in_err-template.ensures.refused [
      | inl memory ↦ inl memory
      | inr (place, is, syntax) ↦
          inr (ap (rendered_parts env) (parsed-refused c.as_slice.result.now place syntax) ∙ ap (λ (f : TemplateFault). Err f) (sym is))
    ]) in
    search (rules, told)

pub returns : goal.returns
returns c =
    subst (λ (text : List ℕ). IsAnswer c.render.result (text_for c.args.env.now text)) c.as_slice.ensures
    (subst (IsAnswer c.render.result)
    (sym (ap (rendered_parts c.args.env.now) (parsed-spelled c.as_slice.result.now c.in_ok-template.template.parts c.in_ok-template.ensures.read)))
    c.render.ensures)
