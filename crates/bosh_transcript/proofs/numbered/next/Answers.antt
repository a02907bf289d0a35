use Rattle.bosh_input.specs.declared.request.Request as request
use Rattle.bosh_transcript.proofs.ReadLemmas.{next_err, next_none, next_some}
use Rattle.bosh_transcript.proofs.numbered.next.Goals as goal

pub returns-in-Ok-Some-clause-next : goal.returns-in-Ok-Some-clause-next
returns-in-Ok-Some-clause-next g c =
    next_some g.I.Source.left g.I.Source.faults c.args.input.now c.next.new.self c.args.source.now c.next.new.source
    c.in-Ok-Some.request c.given.result _ c.next.ensures.reads (rw (c.in-Ok-Some.is, c.in-Ok-Some.field-0-is) at c.next.ensures.given)
    (rw (c.in-Ok-Some.is, c.in-Ok-Some.field-0-is) at c.next.ensures.ended) (rw (c.in-Ok-Some.is, c.in-Ok-Some.field-0-is) at c.next.ensures.fixed) c.given.ensures.count
    c.given.ensures.few

pub returns-in-Ok-None-clause-next : goal.returns-in-Ok-None-clause-next
returns-in-Ok-None-clause-next g c =
    next_none request.Request g.I.Source.left g.I.Source.faults c.args.input.now c.next.new.self c.args.source.now
    c.next.new.source c.args.input.now.ended (λ j. c.args.input.now.ended) c.next.ensures.reads
    (rw (c.in-Ok-None.is, c.in-Ok-None.field-0-is) at c.next.ensures.given) (rw (c.in-Ok-None.is, c.in-Ok-None.field-0-is) at c.next.ensures.ended)
    (rw (c.in-Ok-None.is, c.in-Ok-None.field-0-is) at c.next.ensures.fixed)

pub returns-in-Err-clause-event : goal.returns-in-Err-clause-event
returns-in-Err-clause-event g c =
    next_err request.Request g.I.Source.left g.I.Source.faults c.args.input.now c.next.new.self c.args.source.now
    c.next.new.source c.args.input.now.ended c.in-Err.fault c.from.result (λ j. c.args.input.now.ended) c.from.ensures
    c.next.ensures.reads (rw c.in-Err.is at c.next.ensures.refused) (rw c.in-Err.is at c.next.ensures.failed)
    (rw c.in-Err.is at c.next.ensures.ended) (rw c.in-Err.is at c.next.ensures.fixed)
