use Rattle.std.proofs.Common.{◌+◌, ◌∙◌, sym, drop, refl}
use Rattle.bosh_yaml.proofs.NestingLemmas.{next_item}
use Rattle.bosh_yaml.proofs.check.first_repeated.Goals as goal

pub returns-in-Some : goal.returns-in-Some
returns-in-Some c =
    let next = next_item c.args.events.now c.loop-event.event-index c.event-item.result c.loop-event-test.true c.event-item.is in
    let taken = c.in_ok-line.ensures (drop (c.loop-event.event-index + 1) c.args.events.now) in
    sym (sym (rw next at c.loop-event.invariant) ∙ taken ∙ rw c.in-Some.is refl)
