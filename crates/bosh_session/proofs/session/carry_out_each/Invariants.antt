use Rattle.bosh_session.proofs.TakeLemmas.{turns_left}
use Rattle.bosh_transcript.proofs.WayLemmas.{IsUnderWay}
use Rattle.bosh_session.proofs.session.carry_out_each.Given as goal

-- the commands so far were carried out, and the director was kept good
abbrev pub invariant-loop-files : goal.invariant-loop-files
invariant-loop-files g l = record {
  under_way : IsUnderWay g.I.Source.left g.I.Source.faults g.O.Sink.written g.O.Sink.faults l.fn.source l.source l.fn.out l.out l.input
      (g.D.Director.past l.fn.director) (g.D.Director.past l.director) l.fails;
  kept : g.D.Director.is_good l.fn.director → g.D.Director.is_good l.director;
}

-- each turn takes a command, and a session takes no more than 200
abbrev pub decreases-loop-files : goal.decreases-loop-files
decreases-loop-files g l = turns_left l.input
