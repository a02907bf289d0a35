use Rattle.std.proofs.Common.{false, Bool, subst}
use Rattle.bosh_session.proofs.TogetherLemmas.{cut_by, unbegun, whole_by}
use Rattle.bosh_transcript.proofs.ReplyLemmas.{event_passed}
use Rattle.bosh_transcript.proofs.TogetherLemmas.{together_unread}
use Rattle.bosh_transcript.specs.Carried.{Answers, CarriesUpTo}
use Rattle.bosh_transcript.specs.Segments.{IsToldFirst}
use Rattle.bosh_transcript.specs.declared.extent.Extent.TheVariants as extents
use Rattle.bosh_session.proofs.together.together.Goals as goal

pub returns-in_err-tell-clause-cut : goal.returns-in_err-tell-clause-cut
returns-in_err-tell-clause-cut g c =
    event_passed
    (λ status. CarriesUpTo g.I.Source.left g.I.Source.faults g.O.Sink.written g.O.Sink.faults (extents.Together c.args.count)
    c.args.number c.args.input.now c.args.input.now c.args.source.now c.args.source.now (g.D.Director.past c.args.director.now)
    (g.D.Director.past c.tell.new.director) c.args.out.now c.tell.new.out status)
    c.from_residual.result c.in_err-tell.field-0.0 c.from_residual.ensures.1
    (unbegun g.I.Source.left g.I.Source.faults g.O.Sink.written g.O.Sink.faults c.args.count
    c.args.number c.args.input.now c.args.source.now (g.D.Director.past c.args.director.now) (g.D.Director.past c.tell.new.director) c.args.out.now
    c.tell.new.out c.in_err-tell.field-0.0 c.in_err-tell.ensures.cut)

pub returns-in_err-commands-clause-cut : goal.returns-in_err-commands-clause-cut
returns-in_err-commands-clause-cut g c =
    let first : Answers g.O.Sink.written g.O.Sink.faults (IsToldFirst c.args.number) (g.D.Director.past c.args.director.now)
    (g.D.Director.past c.tell.new.director) c.args.out.now c.tell.new.out false =
    subst (λ (fails : Bool). Answers g.O.Sink.written g.O.Sink.faults (IsToldFirst c.args.number) (g.D.Director.past c.args.director.now)
    (g.D.Director.past c.tell.new.director) c.args.out.now c.tell.new.out fails) c.in_ok-tell.ensures.fails c.in_ok-tell.ensures.answers in
    event_passed
    (λ status. CarriesUpTo g.I.Source.left g.I.Source.faults g.O.Sink.written g.O.Sink.faults (extents.Together c.args.count)
    c.args.number c.args.input.now c.next_commands.new.input c.args.source.now c.next_commands.new.source
    (g.D.Director.past c.args.director.now) (g.D.Director.past c.tell.new.director) c.args.out.now c.tell.new.out status)
    c.from_residual-in_err-commands.result c.in_err-commands.field-0.0 c.from_residual-in_err-commands.ensures.1
    (together_unread g.I.Source.left g.I.Source.faults g.O.Sink.written g.O.Sink.faults c.args.count c.args.number
    c.args.input.now c.next_commands.new.input c.args.source.now c.next_commands.new.source (g.D.Director.past c.args.director.now)
    (g.D.Director.past c.tell.new.director) c.args.out.now c.tell.new.out c.in_err-commands.field-0.0 first c.in_err-commands.ensures.event)

pub returns-clause-carries : goal.returns-clause-carries
returns-clause-carries g c =
    let first : Answers g.O.Sink.written g.O.Sink.faults (IsToldFirst c.args.number) (g.D.Director.past c.args.director.now)
    (g.D.Director.past c.tell.new.director) c.args.out.now c.tell.new.out false =
    subst (λ (fails : Bool). Answers g.O.Sink.written g.O.Sink.faults (IsToldFirst c.args.number) (g.D.Director.past c.args.director.now)
    (g.D.Director.past c.tell.new.director) c.args.out.now c.tell.new.out fails) c.in_ok-tell.ensures.fails c.in_ok-tell.ensures.answers in
    whole_by g.I.Source.left g.I.Source.faults g.O.Sink.written g.O.Sink.faults c.args.count c.args.number
    c.args.input.now c.next_commands.new.input c.args.source.now c.next_commands.new.source c.in_ok-commands.commands.items
    (g.D.Director.past c.args.director.now) (g.D.Director.past c.tell.new.director) (g.D.Director.past c.carry_out_commands.new.director) c.args.out.now
    c.tell.new.out c.carry_out_commands.new.out c.carry_out_commands.result c.requires first c.in_ok-commands.ensures.taken
    c.carry_out_commands.ensures.answers

pub returns-clause-cut : goal.returns-clause-cut
returns-clause-cut g c =
    let first : Answers g.O.Sink.written g.O.Sink.faults (IsToldFirst c.args.number) (g.D.Director.past c.args.director.now)
    (g.D.Director.past c.tell.new.director) c.args.out.now c.tell.new.out false =
    subst (λ (fails : Bool). Answers g.O.Sink.written g.O.Sink.faults (IsToldFirst c.args.number) (g.D.Director.past c.args.director.now)
    (g.D.Director.past c.tell.new.director) c.args.out.now c.tell.new.out fails) c.in_ok-tell.ensures.fails c.in_ok-tell.ensures.answers in
    cut_by g.I.Source.left g.I.Source.faults g.O.Sink.written g.O.Sink.faults c.args.count c.args.number
    c.args.input.now c.next_commands.new.input c.args.source.now c.next_commands.new.source c.in_ok-commands.commands.items
    (g.D.Director.past c.args.director.now) (g.D.Director.past c.tell.new.director) (g.D.Director.past c.carry_out_commands.new.director) c.args.out.now
    c.tell.new.out c.carry_out_commands.new.out c.carry_out_commands.result c.requires first c.in_ok-commands.ensures.taken
    c.carry_out_commands.ensures.cut

pub returns-clause-kept : goal.returns-clause-kept
returns-clause-kept g c = λ good. c.carry_out_commands.ensures.kept (c.tell.ensures.kept good)
