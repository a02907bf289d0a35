use Rattle.std.proofs.Common.{◌∙◌, ◌≡◌, ◌<◌, ◌^◌, sym, subst, List, ℕ, Option}
use Rattle.std.specs.Option.{SomeIff}
use Rattle.std.specs.Str.Parse.{ParsesUnsigned, digits_value}
use Rattle.bosh_line_words.proofs.NumberLemmas.{decimal_parsed, is_text}
use Rattle.bosh_line_words.proofs.number.value_of.Goals as goal

pub returns-in-Ok : goal.returns-in-Ok
returns-in-Ok c =
    let s = c.args.digits.now in
    let read = subst (λ (t : List ℕ). ParsesUnsigned 64 10 t c.parse.result) c.in-Ok.ensures.cases.0 c.parse.ensures.value.0 in
    subst (λ (r : Option ℕ). SomeIff r (digits_value 10 s < 2 ^ 64) (digits_value 10 s)) (sym c.ok.ensures.value) (decimal_parsed s c.parse.result read c.requires)

pub returns-in-Err : goal.returns-in-Err
returns-in-Err c = absurd (c.in-Err.ensures.cases.0 (is_text c.args.digits.now c.requires))
