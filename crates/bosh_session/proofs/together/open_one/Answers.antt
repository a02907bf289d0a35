use Rattle.std.proofs.Common.{map}
use Rattle.bosh_session.proofs.OpenLemmas.{lost_opening, none_opened, one_opened, one_told}
use Rattle.bosh_session.specs.Running.{number_of}
use Rattle.bosh_transcript.proofs.InTurnLemmas.{part_later, reply_cut, reply_told}
use Rattle.bosh_session.proofs.together.open_one.Goals as goal

pub returns-in-Ok-Task-clause-opens : goal.returns-in-Ok-Task-clause-opens
returns-in-Ok-Task-clause-opens g c =
    one_opened g.O.Sink.written g.O.Sink.faults c.args.running.now.items c.add.new.running.items
    (record { number = c.args.command.number; task = c.in-Ok-Task.task }) (g.D.Director.past c.args.director.now)
    (g.D.Director.past c.open.new.self) c.args.out.now c.add.result c.open.ensures.proceeds c.add.ensures.added
    c.add.ensures.good

pub returns-in-Ok-Task-clause-cut : goal.returns-in-Ok-Task-clause-cut
returns-in-Ok-Task-clause-cut g c =
    none_opened g.O.Sink.written g.O.Sink.faults c.args.command.number (g.D.Director.past c.args.director.now)
    (g.D.Director.past c.open.new.self) c.args.out.now c.add.result c.open.ensures.proceeds c.add.ensures.memory

pub returns-in-Ok-Refused-clause-opens : goal.returns-in-Ok-Refused-clause-opens
returns-in-Ok-Refused-clause-opens g c =
    one_told g.O.Sink.written g.O.Sink.faults c.args.command.number (map number_of c.args.running.now.items)
    (g.D.Director.past c.args.director.now) (g.D.Director.past c.open.new.self) (g.D.Director.past c.tell.new.director)
    c.args.out.now c.tell.new.out c.tell.result c.open.ensures.proceeds
    (reply_told g.O.Sink.written g.O.Sink.faults c.args.command.number c.in-Ok-Refused.reply
    (g.D.Director.past c.open.new.self) (g.D.Director.past c.tell.new.director) c.args.out.now c.tell.new.out c.tell.result
    c.tell.ensures.answers)

pub returns-in-Ok-Refused-clause-cut : goal.returns-in-Ok-Refused-clause-cut
returns-in-Ok-Refused-clause-cut g c =
    part_later g.O.Sink.written g.O.Sink.faults c.args.command.number (g.D.Director.past c.args.director.now)
    (g.D.Director.past c.open.new.self) (g.D.Director.past c.tell.new.director) c.args.out.now c.tell.new.out c.tell.result
    c.open.ensures.proceeds
    (reply_cut g.O.Sink.written g.O.Sink.faults c.args.command.number c.in-Ok-Refused.reply
    (g.D.Director.past c.open.new.self) (g.D.Director.past c.tell.new.director) c.args.out.now c.tell.new.out c.tell.result
    c.tell.ensures.cut)

pub returns-in-Err-Memory-clause-cut : goal.returns-in-Err-Memory-clause-cut
returns-in-Err-Memory-clause-cut g c =
    lost_opening g.O.Sink.written g.O.Sink.faults c.args.command.number (g.D.Director.past c.args.director.now)
    (g.D.Director.past c.open.new.self) c.args.out.now c.open.ensures.proceeds

pub returns-in-Ok-Refused-clause-kept : goal.returns-in-Ok-Refused-clause-kept
returns-in-Ok-Refused-clause-kept g c = λ good. c.tell.ensures.kept (c.open.ensures.kept good)
