use Rattle.std.proofs.Common.{◌≡◌, take}
use Rattle.std.specs.Prelude.{All}
use Rattle.bosh_base.specs.History.{Extends}
use Rattle.bosh_crew.specs.Carried.{IsLeft, Reaches}
use Rattle.bosh_crew.specs.Driven.{IsEnded}
use Rattle.bosh_crew.specs.declared.driver.Round.TheVariants.{Ended}
use Rattle.bosh_crew.specs.declared.place.Place.TheVariants.{Empty}
use Rattle.bosh_world.specs.Silent.{IsSilent, moves_of}
use Rattle.bosh_crew.proofs.driver.go_round.Given as goal

-- the moves went on by steps, no reply was noted, and where nothing was done each task so far has its end
abbrev pub invariant-loop-task : goal.invariant-loop-task
invariant-loop-task g l = record {
  goes : Extends (moves_of l.fn.site) (moves_of l.site);
  silent : IsSilent l.fn.site l.site;
  ended : l.round ≡ Ended → All (IsEnded l.site.book.records) (take l.task-index l.tasks);
  reaches : Reaches g.K.Keeper.bodies g.K.Keeper.faults g.L.Keeper.bodies g.L.Keeper.faults l.tasks 0 l.fn.site Empty
      l.site Empty;
  left : IsLeft g.K.Keeper.bodies g.K.Keeper.faults l.tasks 0 l.round l.site;
}
