use Rattle.bosh_directing.proofs.ActLemmas.{acts_armed, acts_same}
use Rattle.bosh_directing.proofs.KeepLemmas.{keeps_armed, keeps_same}
use Rattle.bosh_directing.proofs.traps.arm.Goals as goal

pub returns-in-Ok : goal.returns-in-Ok
returns-in-Ok g c = record {
  acts = acts_armed c.args.site.now c.arm.new.self c.args.trap c.in-Ok.ensures.ok;
  kept = keeps_armed g.K.Keeper.bodies g.K.Keeper.faults g.K.Keeper.is_broken g.L.Keeper.bodies g.L.Keeper.faults c.args.site.now
      c.arm.new.self c.args.trap c.in-Ok.ensures.ok;
}

pub returns-in-Err : goal.returns-in-Err
returns-in-Err g c = record {
  acts = acts_same c.args.site.now c.arm.new.self c.in-Err.ensures.refused;
  kept = keeps_same g.K.Keeper.bodies g.K.Keeper.faults g.K.Keeper.is_broken g.L.Keeper.bodies g.L.Keeper.faults c.args.site.now
      c.arm.new.self c.in-Err.ensures.refused;
}
