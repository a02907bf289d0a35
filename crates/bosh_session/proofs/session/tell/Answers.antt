use Rattle.bosh_session.proofs.TellLemmas.{told_fails, told_for, told_none, told_part}
use Rattle.bosh_session.proofs.session.tell.Goals as goal

pub returns-in-Ok-clause-answers : goal.returns-in-Ok-clause-answers
returns-in-Ok-clause-answers g c =
    told_for g.O.Sink.written g.O.Sink.faults c.args.number c.args.reply c.in-Ok.text.items (g.D.Director.past c.args.director.now)
    (g.D.Director.past c.said.new.director) c.args.out.now c.write_told.new.out c.is_error-fails.result c.write_told.result
    c.in-Ok.ensures.said c.in-Ok.ensures.text c.is_error-fails.ensures c.write_told.ensures.told c.write_told.ensures.whole

pub returns-in-Ok-clause-fails : goal.returns-in-Ok-clause-fails
returns-in-Ok-clause-fails g c =
    told_fails c.args.reply c.is_error-fails.result c.write_told.result c.is_error-fails.ensures c.write_told.ensures.told

pub returns-in-Ok-clause-cut : goal.returns-in-Ok-clause-cut
returns-in-Ok-clause-cut g c =
    told_part g.O.Sink.written g.O.Sink.faults c.args.number c.args.reply c.in-Ok.text.items (g.D.Director.past c.args.director.now)
    (g.D.Director.past c.said.new.director) c.args.out.now c.write_told.new.out c.write_told.result c.in-Ok.ensures.said
    c.in-Ok.ensures.text c.write_told.ensures.cut

pub returns-in-Err-Memory-clause-cut : goal.returns-in-Err-Memory-clause-cut
returns-in-Err-Memory-clause-cut g c =
    told_none g.O.Sink.written g.O.Sink.faults c.args.number c.args.reply (g.D.Director.past c.args.director.now)
    (g.D.Director.past c.said.new.director) c.args.out.now c.in-Err-Memory.ensures.refused
