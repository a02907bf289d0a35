use Rattle.std.proofs.Common.{◌≡◌, ◌∙◌, ◌+◌, ◌-◌, arith, ap, sym, take, drop, length, Some}
use Rattle.std.proofs.lemmas.Grind.{common_steps}
use Rattle.bosh_ip.proofs.BytesLemmas.{split_at_position, Lacks-position}
use Rattle.bosh_template.specs.Reading.{cut_at}
use Rattle.bosh_template.proofs.FrontLemmas.{cut_at-front, cut_at-lacks}
use Rattle.bosh_template.proofs.cut.cut_at.Goals as goal

pub returns-in-Some-clause-read : goal.returns-in-Some-clause-read
returns-in-Some-clause-read c =
    let byte = c.args.byte in
    let text = c.args.text.now in
    let place = c.in-Some.place in
    let (within, split, lacks) = split_at_position byte text place (sym c.place_of.ensures ∙ c.in-Some.is) in
    let whole : take (length text - (place + 1)) (drop (place + 1) text) ≡ drop (place + 1) text = grind (arith, common_steps) in
    ap (λ rest. Some (take place text, rest)) whole ∙ sym (ap (cut_at byte) split ∙ cut_at-front byte (take place text) (drop (place + 1) text) lacks)

pub returns-in-None-clause-read : goal.returns-in-None-clause-read
returns-in-None-clause-read c = sym (cut_at-lacks c.args.byte c.args.text.now (Lacks-position c.args.byte c.args.text.now (sym c.place_of.ensures ∙ c.in-None.is)))
