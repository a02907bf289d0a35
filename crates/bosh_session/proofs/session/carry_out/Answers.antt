use Rattle.std.proofs.Common.{◌∙◌, IfErr, IfOk, refl, sym, subst}
use Rattle.bosh_session.proofs.AloneLemmas.{carries_for, cut_for}
use Rattle.bosh_transcript.specs.Carried.{Carries, CarriesUpTo}
use Rattle.bosh_transcript.specs.Extents.{extent_of}
use Rattle.bosh_transcript.specs.declared.extent.Extent.{Extent}
use Rattle.bosh_transcript.specs.declared.extent.Extent.TheVariants as extents
use Rattle.bosh_session.proofs.session.carry_out.Goals as goal

pub returns-in-Together-clause-carries : goal.returns-in-Together-clause-carries
returns-in-Together-clause-carries g c =
    subst
    (λ (e : Extent). IfOk c.together.result (Carries g.I.Source.left g.I.Source.faults g.O.Sink.written g.O.Sink.faults e
    c.args.command.number c.args.input.now c.together.new.input c.args.source.now c.together.new.source
    (g.D.Director.past c.args.director.now) (g.D.Director.past c.together.new.director) c.args.out.now c.together.new.out))
    (sym (sym c.extent_of.ensures ∙ c.in-Together.is)) c.together.ensures.carries

pub returns-in-Together-clause-cut : goal.returns-in-Together-clause-cut
returns-in-Together-clause-cut g c =
    subst
    (λ (e : Extent). IfErr c.together.result (CarriesUpTo g.I.Source.left g.I.Source.faults g.O.Sink.written g.O.Sink.faults e
    c.args.command.number c.args.input.now c.together.new.input c.args.source.now c.together.new.source
    (g.D.Director.past c.args.director.now) (g.D.Director.past c.together.new.director) c.args.out.now c.together.new.out))
    (sym (sym c.extent_of.ensures ∙ c.in-Together.is)) c.together.ensures.cut

pub returns-in-Generated-clause-carries : goal.returns-in-Generated-clause-carries
returns-in-Generated-clause-carries g c =
    carries_for g.I.Source.left g.I.Source.faults g.O.Sink.written g.O.Sink.faults
    (extent_of c.args.command.request.asked) (extents.Generated c.in-Generated.instances) c.args.command.number
    c.args.input.now c.args.source.now (g.D.Director.past c.args.director.now) (g.D.Director.past c.generate.new.director) c.args.out.now
    c.generate.new.out c.generate.result (sym c.extent_of.ensures ∙ c.in-Generated.is) refl c.generate.ensures.answers

pub returns-in-Generated-clause-cut : goal.returns-in-Generated-clause-cut
returns-in-Generated-clause-cut g c =
    cut_for g.I.Source.left g.I.Source.faults g.O.Sink.written g.O.Sink.faults
    (extent_of c.args.command.request.asked) (extents.Generated c.in-Generated.instances) c.args.command.number
    c.args.input.now c.args.source.now (g.D.Director.past c.args.director.now) (g.D.Director.past c.generate.new.director) c.args.out.now
    c.generate.new.out c.generate.result (sym c.extent_of.ensures ∙ c.in-Generated.is) c.generate.ensures.cut

pub returns-in-Single-clause-carries : goal.returns-in-Single-clause-carries
returns-in-Single-clause-carries g c =
    carries_for g.I.Source.left g.I.Source.faults g.O.Sink.written g.O.Sink.faults
    (extent_of c.args.command.request.asked) extents.Single c.args.command.number c.args.input.now c.args.source.now
    (g.D.Director.past c.args.director.now) (g.D.Director.past c.carry_out_one.new.director) c.args.out.now c.carry_out_one.new.out
    c.carry_out_one.result (sym c.extent_of.ensures ∙ c.in-Single.is) refl c.carry_out_one.ensures.answers

pub returns-in-Single-clause-cut : goal.returns-in-Single-clause-cut
returns-in-Single-clause-cut g c =
    cut_for g.I.Source.left g.I.Source.faults g.O.Sink.written g.O.Sink.faults
    (extent_of c.args.command.request.asked) extents.Single c.args.command.number c.args.input.now c.args.source.now
    (g.D.Director.past c.args.director.now) (g.D.Director.past c.carry_out_one.new.director) c.args.out.now c.carry_out_one.new.out
    c.carry_out_one.result (sym c.extent_of.ensures ∙ c.in-Single.is) c.carry_out_one.ensures.cut
