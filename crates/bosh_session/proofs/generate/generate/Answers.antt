use Rattle.std.proofs.Common.{◌∷◌, [], ◌||◌, Bool, Ok, subst}
use Rattle.bosh_session.proofs.TellLemmas.{or_good}
use Rattle.bosh_transcript.proofs.InTurnLemmas.{for_then, part_first, part_then, reply_for, reply_part}
use Rattle.bosh_transcript.proofs.ReplyLemmas.{event_passed}
use Rattle.bosh_transcript.specs.Carried.{Answers, AnswersUpTo}
use Rattle.bosh_transcript.specs.Segments.{AreAnswered, AreAnsweredUpTo}
use Rattle.bosh_session.proofs.generate.generate.Goals as goal

pub returns-in_err-prepared-clause-cut : goal.returns-in_err-prepared-clause-cut
returns-in_err-prepared-clause-cut g c =
    event_passed
    (λ status. AnswersUpTo g.O.Sink.written g.O.Sink.faults
    (AreAnsweredUpTo (c.args.number ∷ c.args.number ∷ c.args.number ∷ c.args.number ∷ c.args.number ∷ [])) (g.D.Director.past c.args.director.now)
    (g.D.Director.past c.prepare.new.director) c.args.out.now c.prepare.new.out status)
    c.from_residual.result c.in_err-prepared.field-0.0 c.from_residual.ensures.1
    (part_first g.O.Sink.written g.O.Sink.faults (c.args.number ∷ c.args.number ∷ c.args.number ∷ [])
    (c.args.number ∷ c.args.number ∷ []) (g.D.Director.past c.args.director.now) (g.D.Director.past c.prepare.new.director) c.args.out.now
    c.prepare.new.out c.in_err-prepared.field-0.0 c.in_err-prepared.ensures.cut)

pub returns-in_err-deployed-clause-cut : goal.returns-in_err-deployed-clause-cut
returns-in_err-deployed-clause-cut g c =
    event_passed
    (λ status. AnswersUpTo g.O.Sink.written g.O.Sink.faults
    (AreAnsweredUpTo (c.args.number ∷ c.args.number ∷ c.args.number ∷ c.args.number ∷ c.args.number ∷ [])) (g.D.Director.past c.args.director.now)
    (g.D.Director.past c.step_told.new.director) c.args.out.now c.step_told.new.out status)
    c.from_residual-in_err-deployed.result c.in_err-deployed.field-0.0 c.from_residual-in_err-deployed.ensures.1
    (part_then g.O.Sink.written g.O.Sink.faults (c.args.number ∷ c.args.number ∷ c.args.number ∷ [])
    (c.args.number ∷ c.args.number ∷ []) (g.D.Director.past c.args.director.now) (g.D.Director.past c.prepare.new.director)
    (g.D.Director.past c.step_told.new.director) c.args.out.now c.prepare.new.out c.step_told.new.out c.in_ok-prepared.prepared
    c.in_err-deployed.field-0.0 c.in_ok-prepared.ensures.answers
    (part_first g.O.Sink.written g.O.Sink.faults (c.args.number ∷ []) (c.args.number ∷ []) (g.D.Director.past c.prepare.new.director)
    (g.D.Director.past c.step_told.new.director) c.prepare.new.out c.step_told.new.out c.in_err-deployed.field-0.0
    c.in_err-deployed.ensures.cut))

pub returns-in_err-tell-clause-cut : goal.returns-in_err-tell-clause-cut
returns-in_err-tell-clause-cut g c =
    event_passed
    (λ status. AnswersUpTo g.O.Sink.written g.O.Sink.faults
    (AreAnsweredUpTo (c.args.number ∷ c.args.number ∷ c.args.number ∷ c.args.number ∷ c.args.number ∷ [])) (g.D.Director.past c.args.director.now)
    (g.D.Director.past c.tell.new.director) c.args.out.now c.tell.new.out status)
    c.from_residual-in_err-tell.result c.in_err-tell.field-0.0 c.from_residual-in_err-tell.ensures.1
    (part_then g.O.Sink.written g.O.Sink.faults
    (c.args.number ∷ c.args.number ∷ c.args.number ∷ c.args.number ∷ []) (c.args.number ∷ [])
    (g.D.Director.past c.args.director.now) (g.D.Director.past c.step_told.new.director) (g.D.Director.past c.tell.new.director) c.args.out.now
    c.step_told.new.out c.tell.new.out _ c.in_err-tell.field-0.0
    (for_then g.O.Sink.written g.O.Sink.faults (c.args.number ∷ c.args.number ∷ c.args.number ∷ []) (c.args.number ∷ [])
    (g.D.Director.past c.args.director.now) (g.D.Director.past c.prepare.new.director) (g.D.Director.past c.step_told.new.director) c.args.out.now
    c.prepare.new.out c.step_told.new.out c.in_ok-prepared.prepared c.in_ok-deployed.deployed
    c.in_ok-prepared.ensures.answers c.in_ok-deployed.ensures.answers)
    (reply_part g.O.Sink.written g.O.Sink.faults c.args.number _ (g.D.Director.past c.step_told.new.director)
    (g.D.Director.past c.tell.new.director) c.step_told.new.out c.tell.new.out c.in_err-tell.field-0.0 c.in_err-tell.ensures.cut))

pub returns-clause-answers : goal.returns-clause-answers
returns-clause-answers g c =
    subst
    (λ (flag : Bool). Answers g.O.Sink.written g.O.Sink.faults
    (AreAnswered (c.args.number ∷ c.args.number ∷ c.args.number ∷ c.args.number ∷ c.args.number ∷ [])) (g.D.Director.past c.args.director.now)
    (g.D.Director.past c.tell.new.director) c.args.out.now c.tell.new.out flag)
    (or_good (c.in_ok-prepared.prepared || c.in_ok-deployed.deployed) _ c.in_ok-tell.ensures.fails)
    (for_then g.O.Sink.written g.O.Sink.faults
    (c.args.number ∷ c.args.number ∷ c.args.number ∷ c.args.number ∷ []) (c.args.number ∷ [])
    (g.D.Director.past c.args.director.now) (g.D.Director.past c.step_told.new.director) (g.D.Director.past c.tell.new.director) c.args.out.now
    c.step_told.new.out c.tell.new.out _ c.in_ok-tell.field-0
    (for_then g.O.Sink.written g.O.Sink.faults (c.args.number ∷ c.args.number ∷ c.args.number ∷ []) (c.args.number ∷ [])
    (g.D.Director.past c.args.director.now) (g.D.Director.past c.prepare.new.director) (g.D.Director.past c.step_told.new.director) c.args.out.now
    c.prepare.new.out c.step_told.new.out c.in_ok-prepared.prepared c.in_ok-deployed.deployed
    c.in_ok-prepared.ensures.answers c.in_ok-deployed.ensures.answers)
    (reply_for g.O.Sink.written g.O.Sink.faults c.args.number _ (g.D.Director.past c.step_told.new.director)
    (g.D.Director.past c.tell.new.director) c.step_told.new.out c.tell.new.out (Ok c.in_ok-tell.field-0)
    c.in_ok-tell.ensures.answers))

pub returns-in_err-deployed-clause-kept : goal.returns-in_err-deployed-clause-kept
returns-in_err-deployed-clause-kept g c = λ good. c.step_told.ensures.kept (c.prepare.ensures.kept good)

pub returns-in_err-tell-clause-kept : goal.returns-in_err-tell-clause-kept
returns-in_err-tell-clause-kept g c = λ good. c.tell.ensures.kept (c.step_told.ensures.kept (c.prepare.ensures.kept good))

pub returns-clause-kept : goal.returns-clause-kept
returns-clause-kept g c = λ good. c.tell.ensures.kept (c.step_told.ensures.kept (c.prepare.ensures.kept good))
