use Rattle.std.proofs.Common.{sym, ◌∙◌, arith}
use Rattle.cpi_proc.proofs.DecimalLemmas.{number_other, number_parsed, number_refused}
use Rattle.cpi_proc.proofs.decimal.number_in.Goals as goal

pub returns-in-Ok : goal.returns-in-Ok
returns-in-Ok c =
    let parsed = c.in-Ok.ensures.value.0 in
    number_parsed c.args.text.now c.in-Ok.number (omega (arith, parsed.0.1, parsed.1)) (sym c.is_decimal.ensures ∙ c.if-is_decimal.true)

pub returns-in_default : goal.returns-in_default
returns-in_default c = number_other c.args.text.now c.parse.result c.in-Ok.number c.parse.ensures.value.0 c.in-Ok.is (sym c.is_decimal.ensures ∙ c.if-is_decimal.false)

pub returns-in_default-2 : goal.returns-in_default-2
returns-in_default-2 c = number_refused c.args.text.now c.parse.result c.in_default.field-0 c.parse.ensures.value.0 c.in_default.is
