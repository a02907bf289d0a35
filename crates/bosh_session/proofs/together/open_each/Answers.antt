use Rattle.std.proofs.Common.{◌∙◌, map}
use Rattle.std.proofs.lemmas.Iterator.Adapters.{YieldsList-from_vec}
use Rattle.std.proofs.lemmas.Iterator.Consumers.{YieldsList-end}
use Rattle.std.specs.Vec.Iter.{into_iter_items}
use Rattle.bosh_session.proofs.OpenLemmas.{opens_all, opens_cut, opens_more, opens_none}
use Rattle.bosh_session.specs.Running.{number_in, number_of}
use Rattle.bosh_transcript.proofs.ReplyLemmas.{event_passed}
use Rattle.bosh_transcript.specs.Carried.{AnswersUpTo}
use Rattle.bosh_transcript.specs.Segments.{AreOpenedUpTo}
use Rattle.bosh_session.proofs.together.open_each.Goals as goal

pub loop-command-init : goal.loop-command-init
loop-command-init g c = record {
  opened = opens_none g.O.Sink.written g.O.Sink.faults c.args.commands.items (into_iter_items c.into_iter-command-iterator.result)
      (map number_of c.args.running.now.items) (g.D.Director.past c.args.director.now) c.args.out.now c.into_iter-command-iterator.ensures.into_iter_gives.0;
  kept = λ good. good;
}

pub returns-in_err-failed-clause-cut : goal.returns-in_err-failed-clause-cut
returns-in_err-failed-clause-cut g c =
    event_passed
    (λ status. AnswersUpTo g.O.Sink.written g.O.Sink.faults (AreOpenedUpTo (map number_in c.args.commands.items))
    (g.D.Director.past c.args.director.now)
    (g.D.Director.past c.open_one.new.director) c.args.out.now c.open_one.new.out status)
    c.from_residual.result c.in_err-failed.field-0.0 c.from_residual.ensures.1
    (opens_cut g.O.Sink.written g.O.Sink.faults c.args.commands.items c.loop-command.yielded
    (into_iter_items c.loop-command.command-iterator) (into_iter_items c.next.new.self) c.in-Some.command
    (map number_of c.args.running.now.items) (map number_of c.loop-command.running.items) (g.D.Director.past c.args.director.now)
    (g.D.Director.past c.loop-command.director) (g.D.Director.past c.open_one.new.director) c.args.out.now c.loop-command.out c.open_one.new.out
    c.loop-command.fails c.in_err-failed.field-0.0 c.in-Some.ensures.steps.0 c.loop-command.invariant.opened
    c.in_err-failed.ensures.cut)

pub loop-command-preserved : goal.loop-command-preserved
loop-command-preserved g c = record {
  opened = opens_more g.O.Sink.written g.O.Sink.faults c.args.commands.items c.loop-command.yielded
      (into_iter_items c.loop-command.command-iterator) (into_iter_items c.next.new.self) c.in-Some.command
      (map number_of c.args.running.now.items) (map number_of c.loop-command.running.items)
      (map number_of c.open_one.new.running.items) (g.D.Director.past c.args.director.now) (g.D.Director.past c.loop-command.director)
      (g.D.Director.past c.open_one.new.director) c.args.out.now c.loop-command.out c.open_one.new.out c.loop-command.fails
      c.in_ok-failed.failed c.in-Some.ensures.steps.0 c.loop-command.invariant.opened c.in_ok-failed.ensures.opens;
  kept = λ good. c.open_one.ensures.kept (c.loop-command.invariant.kept good);
}

pub returns-clause-opens : goal.returns-clause-opens
returns-clause-opens g c =
    let all = YieldsList-end
    (YieldsList-from_vec {s = c.into_iter-command-iterator.result} c.args.commands.items c.into_iter-command-iterator.ensures.into_iter_gives.0
    (c.into_iter-command-iterator.ensures.into_iter_gives.1 ∙ c.args.commands.ok.0))
    c.loop-command.yielded c.loop-command.command-iterator c.loop-command.yielded_by c.next.result c.next.new.self c.in-None.is
    c.next.ensures.steps in
    opens_all g.O.Sink.written g.O.Sink.faults c.args.commands.items c.loop-command.yielded
    (into_iter_items c.loop-command.command-iterator) (map number_of c.args.running.now.items)
    (map number_of c.loop-command.running.items) (g.D.Director.past c.args.director.now) (g.D.Director.past c.loop-command.director) c.args.out.now
    c.loop-command.out c.loop-command.fails all.0 c.loop-command.invariant.opened

pub returns-in_err-failed-clause-kept : goal.returns-in_err-failed-clause-kept
returns-in_err-failed-clause-kept g c = λ good. c.open_one.ensures.kept (c.loop-command.invariant.kept good)

pub returns-clause-kept : goal.returns-clause-kept
returns-clause-kept g c = c.loop-command.invariant.kept
