use Rattle.bosh_base.specs.History.{Extends}
use Rattle.bosh_crew.specs.Carried.{Reaches}
use Rattle.bosh_crew.specs.declared.place.Place.TheVariants.{Empty}
use Rattle.bosh_world.specs.Silent.{IsSilent, moves_of}
use Rattle.bosh_crew.proofs.driver.drive.Given as goal

-- the moves went on by steps, and no reply was noted
abbrev pub invariant-loop : goal.invariant-loop
invariant-loop g l = record {
  goes : Extends (moves_of l.fn.site) (moves_of l.site);
  silent : IsSilent l.fn.site l.site;
  reaches : Reaches g.K.Keeper.bodies g.K.Keeper.faults g.L.Keeper.bodies g.L.Keeper.faults l.tasks 0 l.fn.site Empty
      l.site Empty;
}
