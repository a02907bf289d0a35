use Rattle.bosh_directing.proofs.ActLemmas.{acts_restarts, acts_unstarted}
use Rattle.bosh_directing.proofs.KeepLemmas.{keeps_restarted, keeps_unstarted}
use Rattle.bosh_directing.proofs.traps.restart.Goals as goal

pub returns-in-Ok : goal.returns-in-Ok
returns-in-Ok g c = record {
  acts = acts_restarts g.K.Keeper.bodies g.K.Keeper.faults g.K.Keeper.is_broken g.L.Keeper.bodies
      g.L.Keeper.faults c.args.site.now c.restart.new.self _ _ c.in-Ok.ensures.restarted;
  kept = keeps_restarted g.K.Keeper.bodies g.K.Keeper.faults g.K.Keeper.is_broken g.L.Keeper.bodies g.L.Keeper.faults c.args.site.now
      c.restart.new.self c.in-Ok.ensures.restarted;
}

pub returns-in-Err : goal.returns-in-Err
returns-in-Err g c = record {
  acts = acts_unstarted g.K.Keeper.bodies g.K.Keeper.faults g.K.Keeper.is_broken g.L.Keeper.bodies
      g.L.Keeper.faults c.args.site.now c.restart.new.self c.in-Err.fault c.in-Err.ensures.refused;
  kept = keeps_unstarted g.K.Keeper.bodies g.K.Keeper.faults g.K.Keeper.is_broken g.L.Keeper.bodies g.L.Keeper.faults c.args.site.now
      c.restart.new.self c.in-Err.fault c.in-Err.ensures.refused;
}
