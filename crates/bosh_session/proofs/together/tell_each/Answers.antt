use Rattle.std.proofs.Common.{◌<◌, arith, length, map}
use Rattle.bosh_session.proofs.EachLemmas.{each_cut, each_more, each_none}
use Rattle.bosh_session.specs.Running.{number_of}
use Rattle.bosh_transcript.proofs.ReplyLemmas.{event_passed}
use Rattle.bosh_transcript.specs.Carried.{AnswersUpTo}
use Rattle.bosh_transcript.specs.Segments.{AreToldUpTo}
use Rattle.bosh_session.proofs.together.tell_each.Goals as goal

pub loop-it-init : goal.loop-it-init
loop-it-init g c = record {
  told = each_none g.O.Sink.written g.O.Sink.faults (g.D.Director.past c.args.director.now) c.args.out.now;
  kept = λ good. good;
}

pub returns-in_err-failed-clause-cut : goal.returns-in_err-failed-clause-cut
returns-in_err-failed-clause-cut g c =
    let there : c.loop-it.it-index < length c.args.order.now = let t = c.loop-it-test.true in omega (arith, t) in
    event_passed
    (λ status. AnswersUpTo g.O.Sink.written g.O.Sink.faults (AreToldUpTo (map number_of c.args.order.now)) (g.D.Director.past c.args.director.now)
    (g.D.Director.past c.tell_one.new.director) c.args.out.now c.tell_one.new.out status)
    c.from_residual.result c.in_err-failed.field-0.0 c.from_residual.ensures.1
    (each_cut g.O.Sink.written g.O.Sink.faults c.args.order.now c.loop-it.it-index _ (g.D.Director.past c.args.director.now)
    (g.D.Director.past c.loop-it.director) (g.D.Director.past c.tell_one.new.director) c.args.out.now c.loop-it.out c.tell_one.new.out c.loop-it.fails
    c.in_err-failed.field-0.0 there c.loop-it.invariant.told c.in_err-failed.ensures.cut)

pub loop-it-preserved : goal.loop-it-preserved
loop-it-preserved g c =
    let there : c.loop-it.it-index < length c.args.order.now = let t = c.loop-it-test.true in omega (arith, t) in record {
      told = each_more g.O.Sink.written g.O.Sink.faults c.args.order.now c.loop-it.it-index _ (g.D.Director.past c.args.director.now)
          (g.D.Director.past c.loop-it.director) (g.D.Director.past c.tell_one.new.director) c.args.out.now c.loop-it.out c.tell_one.new.out c.loop-it.fails
          c.in_ok-failed.failed there c.loop-it.invariant.told c.in_ok-failed.ensures.answers;
      kept = λ good. c.tell_one.ensures.kept (c.loop-it.invariant.kept good);
    }

pub returns-in_err-failed-clause-kept : goal.returns-in_err-failed-clause-kept
returns-in_err-failed-clause-kept g c = λ good. c.tell_one.ensures.kept (c.loop-it.invariant.kept good)

pub returns-clause-kept : goal.returns-clause-kept
returns-clause-kept g c = c.loop-it.invariant.kept
