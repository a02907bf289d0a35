use Rattle.std.proofs.Common.{◌∙◌, sym, subst, List, ℕ}
use Rattle.std.specs.Str.Parse.{ParsesUnsigned}
use Rattle.bosh_template.proofs.WordLemmas.{index_parsed, is_text}
use Rattle.bosh_template.proofs.reading.index_of.Goals as goal

pub returns-in-Ok : goal.returns-in-Ok
returns-in-Ok c =
    let read = subst (λ (s : List ℕ). ParsesUnsigned 32 10 s c.parse.result) c.in-Ok.ensures.cases.0 c.parse.ensures.value.0 in
    c.ok.ensures.value ∙ index_parsed c.args.word.now c.parse.result read (sym c.if-is_word.ensures) (sym c.if-not-is_counting.ensures)

pub returns-in-Err : goal.returns-in-Err
returns-in-Err c = absurd (c.in-Err.ensures.cases.0 (is_text c.args.word.now (sym c.if-not-is_counting.ensures)))
