use Rattle.bosh_session.proofs.TakeLemmas.{fewer_turns, over_stopped, over_taken, over_whole, way_taken}
use Rattle.bosh_transcript.proofs.EndLemmas.{over_before}
use Rattle.bosh_transcript.proofs.ReplyLemmas.{event_passed}
use Rattle.bosh_transcript.proofs.WayLemmas.{way_begins}
use Rattle.bosh_transcript.specs.Sessions.{IsSession}
use Rattle.bosh_transcript.specs.declared.status.Status.TheVariants.{Memory}
use Rattle.bosh_session.proofs.session.carry_out_each.Goals as goal

pub returns-in_err-input-clause-event : goal.returns-in_err-input-clause-event
returns-in_err-input-clause-event g c =
    event_passed
    (λ status. IsSession g.I.Source.left g.I.Source.faults g.O.Sink.written g.O.Sink.faults c.args.source.now c.args.source.now
    c.args.out.now c.args.out.now status (g.D.Director.past c.args.director.now) (g.D.Director.past c.args.director.now))
    c.from_residual.result Memory c.from_residual.ensures.1
    (over_before g.I.Source.left g.I.Source.faults g.O.Sink.written g.O.Sink.faults c.args.source.now c.args.out.now
    (g.D.Director.past c.args.director.now))

pub loop-files-init : goal.loop-files-init
loop-files-init g c = record {
  under_way = way_begins g.I.Source.left g.I.Source.faults g.O.Sink.written g.O.Sink.faults c.args.source.now c.args.out.now
      c.in_ok-input.input (g.D.Director.past c.args.director.now) c.in_ok-input.ensures;
  kept = λ good. good;
}

pub returns-in_err-command-clause-event : goal.returns-in_err-command-clause-event
returns-in_err-command-clause-event g c =
    event_passed
    (λ status. IsSession g.I.Source.left g.I.Source.faults g.O.Sink.written g.O.Sink.faults c.args.source.now c.next.new.source
    c.args.out.now c.loop-files.out status (g.D.Director.past c.args.director.now)
    (g.D.Director.past c.loop-files.director))
    c.from_residual-in_err-command.result c.in_err-command.field-0.0 c.from_residual-in_err-command.ensures.1
    (over_stopped g.I.Source.left g.I.Source.faults g.O.Sink.written g.O.Sink.faults c.args.source.now c.loop-files.source
    c.next.new.source c.args.out.now c.loop-files.out c.loop-files.input c.next.new.input (g.D.Director.past c.args.director.now)
    (g.D.Director.past c.loop-files.director)
    c.loop-files.fails c.in_err-command.field-0.0 c.loop-files.invariant.under_way c.in_err-command.ensures.event)

pub returns-in_err-failed-clause-event : goal.returns-in_err-failed-clause-event
returns-in_err-failed-clause-event g c =
    event_passed
    (λ status. IsSession g.I.Source.left g.I.Source.faults g.O.Sink.written g.O.Sink.faults c.args.source.now
    c.carry_out.new.source c.args.out.now c.carry_out.new.out status (g.D.Director.past c.args.director.now)
    (g.D.Director.past c.carry_out.new.director))
    c.from_residual-in_err-failed.result c.in_err-failed.field-0.0 c.from_residual-in_err-failed.ensures.1
    (over_taken g.I.Source.left g.I.Source.faults g.O.Sink.written g.O.Sink.faults c.args.source.now c.loop-files.source
    c.next.new.source c.carry_out.new.source c.args.out.now c.loop-files.out c.carry_out.new.out c.loop-files.input
    c.next.new.input c.carry_out.new.input c.in-Some.command (g.D.Director.past c.args.director.now) (g.D.Director.past c.loop-files.director) (g.D.Director.past c.carry_out.new.director)
    c.loop-files.fails c.in_err-failed.field-0.0 c.loop-files.invariant.under_way (rw c.in-Some.is at c.in_ok-command.ensures.next)
    c.in_err-failed.ensures.cut)

pub loop-files-smaller : goal.loop-files-smaller
loop-files-smaller g c =
    fewer_turns g.I.Source.left g.I.Source.faults g.O.Sink.written g.O.Sink.faults c.args.source.now c.loop-files.source
    c.next.new.source c.carry_out.new.source c.args.out.now c.loop-files.out c.carry_out.new.out c.loop-files.input
    c.next.new.input c.carry_out.new.input c.in-Some.command (g.D.Director.past c.args.director.now) (g.D.Director.past c.loop-files.director) (g.D.Director.past c.carry_out.new.director)
    c.loop-files.fails c.in_ok-failed.failed c.loop-files.invariant.under_way (rw c.in-Some.is at c.in_ok-command.ensures.next)
    c.in_ok-failed.ensures.carries

pub loop-files-preserved : goal.loop-files-preserved
loop-files-preserved g c = record {
  under_way = way_taken g.I.Source.left g.I.Source.faults g.O.Sink.written g.O.Sink.faults c.args.source.now c.loop-files.source
      c.next.new.source c.carry_out.new.source c.args.out.now c.loop-files.out c.carry_out.new.out c.loop-files.input
      c.next.new.input c.carry_out.new.input c.in-Some.command (g.D.Director.past c.args.director.now) (g.D.Director.past c.loop-files.director) (g.D.Director.past c.carry_out.new.director)
      c.loop-files.fails c.in_ok-failed.failed c.loop-files.invariant.under_way (rw c.in-Some.is at c.in_ok-command.ensures.next)
      c.in_ok-failed.ensures.carries;
  kept = λ good. c.carry_out.ensures.kept (c.loop-files.invariant.kept good);
}

pub returns-clause-complete : goal.returns-clause-complete
returns-clause-complete g c =
    over_whole g.I.Source.left g.I.Source.faults g.O.Sink.written g.O.Sink.faults c.args.source.now c.loop-files.source
    c.next.new.source c.args.out.now c.loop-files.out c.loop-files.input c.next.new.input (g.D.Director.past c.args.director.now)
    (g.D.Director.past c.loop-files.director)
    c.loop-files.fails c.loop-files.invariant.under_way (rw c.in_default.is at c.in_ok-command.ensures.next)

pub returns-in_err-command-clause-kept : goal.returns-in_err-command-clause-kept
returns-in_err-command-clause-kept g c = c.loop-files.invariant.kept

pub returns-in_err-failed-clause-kept : goal.returns-in_err-failed-clause-kept
returns-in_err-failed-clause-kept g c = λ good. c.carry_out.ensures.kept (c.loop-files.invariant.kept good)

pub returns-clause-kept : goal.returns-clause-kept
returns-clause-kept g c = c.loop-files.invariant.kept
