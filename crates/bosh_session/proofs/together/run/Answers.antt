use Rattle.std.proofs.Common.{List, map, subst, sym}
use Rattle.std.specs.List.Sorted.{IsPermutation}
use Rattle.std.proofs.lemmas.List.Sorted.{IsPermutation-map}
use Rattle.bosh_session.proofs.OrderLemmas.{run_for, run_lost, run_part}
use Rattle.bosh_session.specs.Running.{number_of}
use Rattle.bosh_session.specs.declared.together.Running as running
use Rattle.bosh_transcript.proofs.ReplyLemmas.{event_passed}
use Rattle.bosh_transcript.specs.Carried.{AnswersUpTo}
use Rattle.bosh_transcript.specs.Segments.{AreRunUpTo}
use Rattle.bosh_transcript.specs.declared.status.Status.{Status}
use Rattle.bosh_session.proofs.together.run.Goals as goal

pub returns-in_err-left-clause-cut : goal.returns-in_err-left-clause-cut
returns-in_err-left-clause-cut g c =
    event_passed
    (λ status. AnswersUpTo g.O.Sink.written g.O.Sink.faults (AreRunUpTo (map number_of c.args.running.now)) (g.D.Director.past c.args.director.now)
    (g.D.Director.past c.run_all.new.director) c.args.out.now c.args.out.now status)
    c.from_residual.result c.in_err-left.field-0.0 c.from_residual.ensures.1
    (subst
    (λ (status : Status). AnswersUpTo g.O.Sink.written g.O.Sink.faults (AreRunUpTo (map number_of c.args.running.now))
    (g.D.Director.past c.args.director.now) (g.D.Director.past c.run_all.new.director) c.args.out.now c.args.out.now status)
    (sym c.in_err-left.ensures.memory)
    (run_lost g.O.Sink.written g.O.Sink.faults (map number_of c.args.running.now) (g.D.Director.past c.args.director.now)
    (g.D.Director.past c.run_all.new.director) c.args.out.now c.run_all.ensures.proceeds))

pub returns-in_err-order-clause-cut : goal.returns-in_err-order-clause-cut
returns-in_err-order-clause-cut g c =
    event_passed
    (λ status. AnswersUpTo g.O.Sink.written g.O.Sink.faults (AreRunUpTo (map number_of c.args.running.now)) (g.D.Director.past c.args.director.now)
    (g.D.Director.past c.run_all.new.director) c.args.out.now c.args.out.now status)
    c.from_residual-in_err-order.result c.in_err-order.field-0.0 c.from_residual-in_err-order.ensures.1
    (subst
    (λ (status : Status). AnswersUpTo g.O.Sink.written g.O.Sink.faults (AreRunUpTo (map number_of c.args.running.now))
    (g.D.Director.past c.args.director.now) (g.D.Director.past c.run_all.new.director) c.args.out.now c.args.out.now status)
    (sym c.in_err-order.ensures.memory)
    (run_lost g.O.Sink.written g.O.Sink.faults (map number_of c.args.running.now) (g.D.Director.past c.args.director.now)
    (g.D.Director.past c.run_all.new.director) c.args.out.now c.run_all.ensures.proceeds))

pub returns-clause-answers : goal.returns-clause-answers
returns-clause-answers g c =
    run_for g.O.Sink.written g.O.Sink.faults (map number_of c.args.running.now) (map number_of c.as_slice.result.now)
    (g.D.Director.past c.args.director.now) (g.D.Director.past c.run_all.new.director) (g.D.Director.past c.tell_each.new.director) c.args.out.now
    c.tell_each.new.out c.tell_each.result
    (IsPermutation-map number_of c.args.running.now c.as_slice.result.now
    (subst (λ (order : List running.Running). IsPermutation c.args.running.now order) (sym c.as_slice.ensures.value)
    (rw c.in_ok-order.ensures.answer at c.by_end.ensures.order)))
    c.run_all.ensures.proceeds c.tell_each.ensures.answers

pub returns-clause-cut : goal.returns-clause-cut
returns-clause-cut g c =
    run_part g.O.Sink.written g.O.Sink.faults (map number_of c.args.running.now) (map number_of c.as_slice.result.now)
    (g.D.Director.past c.args.director.now) (g.D.Director.past c.run_all.new.director) (g.D.Director.past c.tell_each.new.director) c.args.out.now
    c.tell_each.new.out c.tell_each.result
    (IsPermutation-map number_of c.args.running.now c.as_slice.result.now
    (subst (λ (order : List running.Running). IsPermutation c.args.running.now order) (sym c.as_slice.ensures.value)
    (rw c.in_ok-order.ensures.answer at c.by_end.ensures.order)))
    c.run_all.ensures.proceeds c.tell_each.ensures.cut

pub returns-clause-kept : goal.returns-clause-kept
returns-clause-kept g c = λ good. c.tell_each.ensures.kept (c.run_all.ensures.kept good)
