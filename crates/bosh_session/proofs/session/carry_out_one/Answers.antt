use Rattle.bosh_transcript.proofs.InTurnLemmas.{for_later, part_later}
use Rattle.bosh_session.proofs.session.carry_out_one.Goals as goal

pub returns-clause-answers : goal.returns-clause-answers
returns-clause-answers g c =
    for_later g.O.Sink.written g.O.Sink.faults c.args.number (g.D.Director.past c.args.director.now)
    (g.D.Director.past c.answer-reply.new.self) (g.D.Director.past c.tell_answer.new.director) c.args.out.now
    c.tell_answer.new.out c.tell_answer.result c.answer-reply.ensures.proceeds c.tell_answer.ensures.answers

pub returns-clause-cut : goal.returns-clause-cut
returns-clause-cut g c =
    part_later g.O.Sink.written g.O.Sink.faults c.args.number (g.D.Director.past c.args.director.now)
    (g.D.Director.past c.answer-reply.new.self) (g.D.Director.past c.tell_answer.new.director) c.args.out.now
    c.tell_answer.new.out c.tell_answer.result c.answer-reply.ensures.proceeds c.tell_answer.ensures.cut

pub returns-clause-kept : goal.returns-clause-kept
returns-clause-kept g c = λ good. c.tell_answer.ensures.kept (c.answer-reply.ensures.kept good)
