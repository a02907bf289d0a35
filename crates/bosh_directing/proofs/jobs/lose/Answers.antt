use Rattle.std.proofs.Common.{refl}
use Rattle.bosh_directing.proofs.ActLemmas.{acts_changes, acts_unchanged}
use Rattle.bosh_directing.proofs.KeepLemmas.{keeps_lost, keeps_unlost}
use Rattle.bosh_directing.proofs.jobs.lose.Goals as goal
use Rattle.bosh_world.specs.Jobs.{IsLoss, IsMissing}

pub returns-in-Ok : goal.returns-in-Ok
returns-in-Ok g c = record {
  acts = acts_changes g.L.Keeper.bodies g.L.Keeper.faults c.args.site.now c.lose.new.self _ _ c.in-Ok.ensures.lost.2
      refl;
  kept = keeps_lost g.K.Keeper.bodies g.K.Keeper.faults g.K.Keeper.is_broken g.L.Keeper.bodies g.L.Keeper.faults c.args.site.now
      c.lose.new.self c.args.inst.now (record { vm = c.in-Ok.ensures.lost.0; whole = c.match-lost.whole })
      c.in-Ok.ensures.lost.1 c.in-Ok.ensures.lost.2;
}

pub returns-in-Err : goal.returns-in-Err
returns-in-Err g c = record {
  acts = acts_unchanged g.L.Keeper.bodies g.L.Keeper.faults c.args.site.now c.lose.new.self
      (IsLoss c.args.site.now c.args.inst.now c.match-lost.whole) (IsMissing c.args.site.now c.args.inst.now) c.in-Err.fault
      c.in-Err.ensures.refused;
  kept = keeps_unlost g.K.Keeper.bodies g.K.Keeper.faults g.K.Keeper.is_broken g.L.Keeper.bodies g.L.Keeper.faults c.args.site.now
      c.lose.new.self c.args.inst.now c.match-lost.whole c.in-Err.fault c.in-Err.ensures.refused;
}
