use Rattle.std.proofs.Common.{◌∙◌, ap, sym, subst, w64, List, ℕ}
use Rattle.std.specs.Str.Parse.{ParsesSigned}
use Rattle.bosh_yaml.specs.Scalar.{is_counting}
use Rattle.bosh_yaml.proofs.IntegerLemmas.{integer_parsed}
use Rattle.bosh_yaml.proofs.plain.integer.Goals as goal

pub returns : goal.returns
returns c =
    let read = subst (λ (s : List ℕ). ParsesSigned w64 10 s c.parse.result) c.in-Ok.ensures.cases.0 c.parse.ensures.value.0 in
    c.ok.ensures.value ∙ integer_parsed c.args.text.now c.parse.result read (sym c.if-is_word.ensures) (sym (c.if-not-is_counting.ensures ∙ ap is_counting c.digits_of.ensures))
