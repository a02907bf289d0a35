use Rattle.std.proofs.Common.{◌∷◌, []}
use Rattle.bosh_transcript.proofs.InTurnLemmas.{lost_told, reply_cut, reply_told}
use Rattle.bosh_session.proofs.session.tell_answer.Goals as goal

pub returns-in-Ok-clause-answers : goal.returns-in-Ok-clause-answers
returns-in-Ok-clause-answers g c =
    reply_told g.O.Sink.written g.O.Sink.faults c.args.number c.in-Ok.reply (g.D.Director.past c.args.director.now)
    (g.D.Director.past c.tell.new.director) c.args.out.now c.tell.new.out c.tell.result c.tell.ensures.answers

pub returns-in-Ok-clause-cut : goal.returns-in-Ok-clause-cut
returns-in-Ok-clause-cut g c =
    reply_cut g.O.Sink.written g.O.Sink.faults c.args.number c.in-Ok.reply (g.D.Director.past c.args.director.now)
    (g.D.Director.past c.tell.new.director) c.args.out.now c.tell.new.out c.tell.result c.tell.ensures.cut

pub returns-in-Err-Memory-clause-cut : goal.returns-in-Err-Memory-clause-cut
returns-in-Err-Memory-clause-cut g c =
    lost_told g.O.Sink.written g.O.Sink.faults (c.args.number ∷ []) (g.D.Director.past c.args.director.now) c.args.out.now
