use Rattle.std.proofs.Common.{map}
use Rattle.bosh_session.proofs.OrderLemmas.{opening_cut, opens_stopped, opens_whole}
use Rattle.bosh_session.specs.Running.{number_in}
use Rattle.bosh_transcript.proofs.ReplyLemmas.{event_passed}
use Rattle.bosh_transcript.specs.Carried.{AnswersUpTo}
use Rattle.bosh_transcript.specs.Segments.{AreTogetherUpTo}
use Rattle.bosh_session.proofs.together.carry_out_commands.Goals as goal

pub returns-in_err-failed-clause-cut : goal.returns-in_err-failed-clause-cut
returns-in_err-failed-clause-cut g c =
    event_passed
    (λ status. AnswersUpTo g.O.Sink.written g.O.Sink.faults (AreTogetherUpTo (map number_in c.args.commands.items))
    (g.D.Director.past c.args.director.now) (g.D.Director.past c.open_each.new.director) c.args.out.now c.open_each.new.out
    status)
    c.from_residual.result c.in_err-failed.field-0.0 c.from_residual.ensures.1
    (opening_cut g.O.Sink.written g.O.Sink.faults (map number_in c.args.commands.items) (g.D.Director.past c.args.director.now)
    (g.D.Director.past c.open_each.new.director) c.args.out.now c.open_each.new.out c.in_err-failed.field-0.0
    c.in_err-failed.ensures.cut)

pub returns-in_err-ended-clause-cut : goal.returns-in_err-ended-clause-cut
returns-in_err-ended-clause-cut g c =
    event_passed
    (λ status. AnswersUpTo g.O.Sink.written g.O.Sink.faults (AreTogetherUpTo (map number_in c.args.commands.items))
    (g.D.Director.past c.args.director.now) (g.D.Director.past c.run.new.director) c.args.out.now c.run.new.out status)
    c.from_residual-in_err-ended.result c.in_err-ended.field-0.0 c.from_residual-in_err-ended.ensures.1
    (opens_stopped g.O.Sink.written g.O.Sink.faults (map number_in c.args.commands.items) c.new-running.result.items
    c.open_each.new.running.items c.as_slice.result.now (g.D.Director.past c.args.director.now)
    (g.D.Director.past c.open_each.new.director) (g.D.Director.past c.run.new.director) c.args.out.now c.open_each.new.out
    c.run.new.out c.in_ok-failed.failed c.in_err-ended.field-0.0 c.new-running.ensures.items c.as_slice.ensures.value
    c.in_ok-failed.ensures.opens c.in_err-ended.ensures.cut)

pub returns-clause-answers : goal.returns-clause-answers
returns-clause-answers g c =
    opens_whole g.O.Sink.written g.O.Sink.faults (map number_in c.args.commands.items) c.new-running.result.items
    c.open_each.new.running.items c.as_slice.result.now (g.D.Director.past c.args.director.now)
    (g.D.Director.past c.open_each.new.director) (g.D.Director.past c.run.new.director) c.args.out.now c.open_each.new.out
    c.run.new.out c.in_ok-failed.failed c.in_ok-ended.ended c.new-running.ensures.items c.as_slice.ensures.value
    c.in_ok-failed.ensures.opens c.in_ok-ended.ensures.answers

pub returns-in_err-ended-clause-kept : goal.returns-in_err-ended-clause-kept
returns-in_err-ended-clause-kept g c = λ good. c.run.ensures.kept (c.open_each.ensures.kept good)

pub returns-clause-kept : goal.returns-clause-kept
returns-clause-kept g c = λ good. c.run.ensures.kept (c.open_each.ensures.kept good)
