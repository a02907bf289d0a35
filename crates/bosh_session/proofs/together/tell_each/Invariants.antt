use Rattle.std.proofs.Common.{map, take}
use Rattle.bosh_session.specs.Running.{number_of}
use Rattle.bosh_transcript.specs.Carried.{Answers}
use Rattle.bosh_transcript.specs.Segments.{AreTold}
use Rattle.bosh_session.proofs.together.tell_each.Given as goal

-- the tasks so far were told, and the director was kept good
abbrev pub invariant-loop-it : goal.invariant-loop-it
invariant-loop-it g l = record {
  told : Answers g.O.Sink.written g.O.Sink.faults (AreTold (map number_of (take l.it-index l.order))) (g.D.Director.past l.fn.director) (g.D.Director.past l.director)
      l.fn.out l.out l.fails;
  kept : g.D.Director.is_good l.fn.director → g.D.Director.is_good l.director;
}
