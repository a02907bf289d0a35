use Rattle.std.proofs.Common.{◌≤◌, ◌+◌, List, arith, subst, sym}
use Rattle.bosh_transcript.proofs.ReadLemmas.{AreTaken, taken_lost, taken_more, taken_none, taken_stopped, taken_whole}
use Rattle.bosh_transcript.proofs.ReplyLemmas.{event_passed}
use Rattle.bosh_transcript.specs.Carried.{EndsReading, ReadsWhole, TakesNext}
use Rattle.bosh_transcript.specs.declared.numbered.Numbered as numbered
use Rattle.bosh_transcript.specs.declared.status.Status.TheVariants.{Memory}
use Rattle.bosh_transcript.proofs.numbered.next_commands.Goals as goal

pub loop-init : goal.loop-init
loop-init g c =
    taken_none g.I.Source.left g.I.Source.faults c.args.input.now c.args.source.now c.new-commands.result.items
    c.new-commands.ensures.items

pub returns-in_err-command-clause-event : goal.returns-in_err-command-clause-event
returns-in_err-command-clause-event g c =
    let few : c.loop.counter ≤ c.args.count = let t = c.loop-test.true in omega (arith, t) in
    event_passed
    (EndsReading g.I.Source.left g.I.Source.faults c.args.count c.args.input.now c.next.new.input c.args.source.now c.next.new.source)
    c.from_residual.result c.in_err-command.field-0.0 c.from_residual.ensures.1
    (taken_stopped g.I.Source.left g.I.Source.faults c.args.count c.loop.counter c.args.input.now c.loop.input c.next.new.input
    c.args.source.now c.loop.source c.next.new.source c.loop.commands.items c.in_err-command.field-0.0 few c.loop.invariant
    c.in_err-command.ensures.event)

pub returns-in_err-push-in-Some-clause-event : goal.returns-in_err-push-in-Some-clause-event
returns-in_err-push-in-Some-clause-event g c =
    let few : c.loop.counter + 1 ≤ c.args.count = let t = c.loop-test.true in omega (arith, t) in
    let next : TakesNext g.I.Source.left g.I.Source.faults c.loop.input c.next.new.input c.loop.source c.next.new.source c.in-Some.command =
    rw c.in-Some.is at c.in_ok-command.ensures.next in
    event_passed
    (EndsReading g.I.Source.left g.I.Source.faults c.args.count c.args.input.now c.next.new.input c.args.source.now c.next.new.source)
    c.from_residual-in_err-push-in-Some.result Memory c.from_residual-in_err-push-in-Some.ensures.1
    (taken_lost g.I.Source.left g.I.Source.faults c.args.count c.loop.counter c.args.input.now c.loop.input c.next.new.input
    c.args.source.now c.loop.source c.next.new.source c.loop.commands.items c.in-Some.command few c.loop.invariant next)

pub returns-in-None-clause-taken : goal.returns-in-None-clause-taken
returns-in-None-clause-taken g c =
    let few : c.loop.counter ≤ c.args.count = let t = c.loop-test.true in omega (arith, t) in
    let whole : ReadsWhole g.I.Source.left g.I.Source.faults c.loop.input c.next.new.input c.loop.source c.next.new.source =
    rw c.in-None.is at c.in_ok-command.ensures.next in
    taken_whole g.I.Source.left g.I.Source.faults c.args.count c.loop.counter c.args.input.now c.loop.input c.next.new.input
    c.args.source.now c.loop.source c.next.new.source c.loop.commands.items few c.loop.invariant whole

pub loop-preserved : goal.loop-preserved
loop-preserved g c =
    let next : TakesNext g.I.Source.left g.I.Source.faults c.loop.input c.next.new.input c.loop.source c.next.new.source c.in-Some.command =
    rw c.in-Some.is at c.in_ok-command.ensures.next in
    subst
    (λ (taken : List numbered.Numbered). AreTaken g.I.Source.left g.I.Source.faults (c.loop.counter + 1) c.args.input.now
    c.next.new.input c.args.source.now c.next.new.source taken)
    (sym c.in_ok-push-in-Some.ensures.items)
    (taken_more g.I.Source.left g.I.Source.faults c.loop.counter c.args.input.now c.loop.input c.next.new.input c.args.source.now
    c.loop.source c.next.new.source c.loop.commands.items c.in-Some.command c.loop.invariant next)
