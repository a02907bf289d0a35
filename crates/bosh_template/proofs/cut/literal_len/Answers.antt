use Rattle.std.proofs.Common.{◌≡◌, ◌-◌, ◌∙◌, arith, ap, sym, take, drop, length}
use Rattle.std.proofs.lemmas.Grind.{common_steps}
use Rattle.bosh_template.specs.Grammar.{opens}
use Rattle.bosh_template.proofs.FrontLemmas.{literal_len_more}
use Rattle.bosh_template.proofs.cut.literal_len.Goals as goal

pub loop-len-preserved : goal.loop-len-preserved
loop-len-preserved c =
    let text = c.args.text.now in
    let len = c.loop-len.len in
    let whole : take (length text - len) (drop len text) ≡ drop len text = grind (arith, common_steps) in
    let more = literal_len_more text len c.loop-len-test.true (ap opens (sym whole) ∙ sym c.if-not-opens.ensures) in
    (omega arith, omega (arith, more, c.loop-len.invariant.1))
