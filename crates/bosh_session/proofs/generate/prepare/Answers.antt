use Rattle.std.proofs.Common.{◌∷◌, []}
use Rattle.bosh_transcript.proofs.InTurnLemmas.{for_then, part_first, part_then}
use Rattle.bosh_transcript.proofs.ReplyLemmas.{event_passed}
use Rattle.bosh_transcript.specs.Carried.{AnswersUpTo}
use Rattle.bosh_transcript.specs.Segments.{AreAnsweredUpTo}
use Rattle.bosh_session.proofs.generate.prepare.Goals as goal

pub returns-in_err-stemcell-clause-cut : goal.returns-in_err-stemcell-clause-cut
returns-in_err-stemcell-clause-cut g c =
    event_passed
    (λ status. AnswersUpTo g.O.Sink.written g.O.Sink.faults
    (AreAnsweredUpTo (c.args.number ∷ c.args.number ∷ c.args.number ∷ [])) (g.D.Director.past c.args.director.now) (g.D.Director.past c.step_told.new.director)
    c.args.out.now c.step_told.new.out status)
    c.from_residual.result c.in_err-stemcell.field-0.0 c.from_residual.ensures.1
    (part_first g.O.Sink.written g.O.Sink.faults (c.args.number ∷ []) (c.args.number ∷ c.args.number ∷ [])
    (g.D.Director.past c.args.director.now) (g.D.Director.past c.step_told.new.director) c.args.out.now c.step_told.new.out
    c.in_err-stemcell.field-0.0 c.in_err-stemcell.ensures.cut)

pub returns-in_err-release-clause-cut : goal.returns-in_err-release-clause-cut
returns-in_err-release-clause-cut g c =
    event_passed
    (λ status. AnswersUpTo g.O.Sink.written g.O.Sink.faults
    (AreAnsweredUpTo (c.args.number ∷ c.args.number ∷ c.args.number ∷ [])) (g.D.Director.past c.args.director.now) (g.D.Director.past c.step_told-2.new.director)
    c.args.out.now c.step_told-2.new.out status)
    c.from_residual-in_err-release.result c.in_err-release.field-0.0 c.from_residual-in_err-release.ensures.1
    (part_then g.O.Sink.written g.O.Sink.faults (c.args.number ∷ []) (c.args.number ∷ c.args.number ∷ [])
    (g.D.Director.past c.args.director.now) (g.D.Director.past c.step_told.new.director) (g.D.Director.past c.step_told-2.new.director)
    c.args.out.now c.step_told.new.out c.step_told-2.new.out c.in_ok-stemcell.stemcell c.in_err-release.field-0.0
    c.in_ok-stemcell.ensures.answers
    (part_first g.O.Sink.written g.O.Sink.faults (c.args.number ∷ []) (c.args.number ∷ [])
    (g.D.Director.past c.step_told.new.director) (g.D.Director.past c.step_told-2.new.director) c.step_told.new.out c.step_told-2.new.out
    c.in_err-release.field-0.0 c.in_err-release.ensures.cut))

pub returns-in_err-config-clause-cut : goal.returns-in_err-config-clause-cut
returns-in_err-config-clause-cut g c =
    event_passed
    (λ status. AnswersUpTo g.O.Sink.written g.O.Sink.faults
    (AreAnsweredUpTo (c.args.number ∷ c.args.number ∷ c.args.number ∷ [])) (g.D.Director.past c.args.director.now) (g.D.Director.past c.step_told-3.new.director)
    c.args.out.now c.step_told-3.new.out status)
    c.from_residual-in_err-config.result c.in_err-config.field-0.0 c.from_residual-in_err-config.ensures.1
    (part_then g.O.Sink.written g.O.Sink.faults (c.args.number ∷ c.args.number ∷ []) (c.args.number ∷ [])
    (g.D.Director.past c.args.director.now) (g.D.Director.past c.step_told-2.new.director) (g.D.Director.past c.step_told-3.new.director)
    c.args.out.now c.step_told-2.new.out c.step_told-3.new.out _ c.in_err-config.field-0.0
    (for_then g.O.Sink.written g.O.Sink.faults (c.args.number ∷ []) (c.args.number ∷ [])
    (g.D.Director.past c.args.director.now) (g.D.Director.past c.step_told.new.director) (g.D.Director.past c.step_told-2.new.director)
    c.args.out.now c.step_told.new.out c.step_told-2.new.out c.in_ok-stemcell.stemcell c.in_ok-release.release
    c.in_ok-stemcell.ensures.answers c.in_ok-release.ensures.answers)
    c.in_err-config.ensures.cut)

pub returns-clause-answers : goal.returns-clause-answers
returns-clause-answers g c =
    for_then g.O.Sink.written g.O.Sink.faults (c.args.number ∷ c.args.number ∷ []) (c.args.number ∷ [])
    (g.D.Director.past c.args.director.now) (g.D.Director.past c.step_told-2.new.director) (g.D.Director.past c.step_told-3.new.director)
    c.args.out.now c.step_told-2.new.out c.step_told-3.new.out _ c.in_ok-config.config
    (for_then g.O.Sink.written g.O.Sink.faults (c.args.number ∷ []) (c.args.number ∷ [])
    (g.D.Director.past c.args.director.now) (g.D.Director.past c.step_told.new.director) (g.D.Director.past c.step_told-2.new.director)
    c.args.out.now c.step_told.new.out c.step_told-2.new.out c.in_ok-stemcell.stemcell c.in_ok-release.release
    c.in_ok-stemcell.ensures.answers c.in_ok-release.ensures.answers)
    c.in_ok-config.ensures.answers

pub returns-in_err-release-clause-kept : goal.returns-in_err-release-clause-kept
returns-in_err-release-clause-kept g c = λ good. c.step_told-2.ensures.kept (c.step_told.ensures.kept good)

pub returns-in_err-config-clause-kept : goal.returns-in_err-config-clause-kept
returns-in_err-config-clause-kept g c =
    λ good. c.step_told-3.ensures.kept (c.step_told-2.ensures.kept (c.step_told.ensures.kept good))

pub returns-clause-kept : goal.returns-clause-kept
returns-clause-kept g c =
    λ good. c.step_told-3.ensures.kept (c.step_told-2.ensures.kept (c.step_told.ensures.kept good))
