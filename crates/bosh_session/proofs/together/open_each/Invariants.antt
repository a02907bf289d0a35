use Rattle.std.proofs.Common.{map}
use Rattle.std.specs.Vec.Iter.{into_iter_items}
use Rattle.bosh_session.proofs.OpenLemmas.{HaveOpened}
use Rattle.bosh_session.specs.Running.{number_of}
use Rattle.bosh_session.proofs.together.open_each.Given as goal

-- the tasks of the commands so far were opened, and the director was kept good
abbrev pub invariant-loop-command : goal.invariant-loop-command
invariant-loop-command g l = record {
  opened : HaveOpened g.O.Sink.written g.O.Sink.faults l.fn.commands.items l.yielded (into_iter_items l.command-iterator)
      (map number_of l.fn.running.items) (map number_of l.running.items) (g.D.Director.past l.fn.director) (g.D.Director.past l.director) l.fn.out l.out
      l.fails;
  kept : g.D.Director.is_good l.fn.director → g.D.Director.is_good l.director;
}
