use Rattle.bosh_transcript.proofs.InTurnLemmas.{for_later, part_later}
use Rattle.bosh_session.proofs.generate.step_told.Goals as goal

pub returns-clause-answers : goal.returns-clause-answers
returns-clause-answers g c =
    for_later g.O.Sink.written g.O.Sink.faults c.args.number (g.D.Director.past c.args.director.now)
    (g.D.Director.past c.take_step-reply.new.director) (g.D.Director.past c.tell_answer.new.director) c.args.out.now
    c.tell_answer.new.out c.tell_answer.result c.take_step-reply.ensures.proceeds c.tell_answer.ensures.answers

pub returns-clause-cut : goal.returns-clause-cut
returns-clause-cut g c =
    part_later g.O.Sink.written g.O.Sink.faults c.args.number (g.D.Director.past c.args.director.now)
    (g.D.Director.past c.take_step-reply.new.director) (g.D.Director.past c.tell_answer.new.director) c.args.out.now
    c.tell_answer.new.out c.tell_answer.result c.take_step-reply.ensures.proceeds c.tell_answer.ensures.cut

pub returns-clause-kept : goal.returns-clause-kept
returns-clause-kept g c = λ good. c.tell_answer.ensures.kept (c.take_step-reply.ensures.kept good)
