use Rattle.std.proofs.Common.{refl}
use Rattle.bosh_directing.proofs.ActLemmas.{acts_changes, acts_unchanged}
use Rattle.bosh_directing.proofs.KeepLemmas.{keeps_unwritten, keeps_written}
use Rattle.bosh_directing.proofs.jobs.write.Goals as goal
use Rattle.bosh_world.specs.Jobs.{IsNotRunning, IsWrite}

pub returns-in-Ok : goal.returns-in-Ok
returns-in-Ok g c = record {
  acts = acts_changes g.L.Keeper.bodies g.L.Keeper.faults c.args.site.now c.write_disk.new.self _ _
      c.in-Ok.ensures.written.2 refl;
  kept = keeps_written g.K.Keeper.bodies g.K.Keeper.faults g.K.Keeper.is_broken g.L.Keeper.bodies g.L.Keeper.faults c.args.site.now
      c.write_disk.new.self c.args.inst.now c.args.text.now c.in-Ok.ensures.written.0 c.in-Ok.ensures.written.1
      c.in-Ok.ensures.written.2;
}

pub returns-in-Err : goal.returns-in-Err
returns-in-Err g c = record {
  acts = acts_unchanged g.L.Keeper.bodies g.L.Keeper.faults c.args.site.now c.write_disk.new.self
      (IsWrite c.args.site.now c.args.inst.now c.args.text.now) (IsNotRunning c.args.site.now c.args.inst.now) c.in-Err.fault
      c.in-Err.ensures.refused;
  kept = keeps_unwritten g.K.Keeper.bodies g.K.Keeper.faults g.K.Keeper.is_broken g.L.Keeper.bodies g.L.Keeper.faults c.args.site.now
      c.write_disk.new.self c.args.inst.now c.args.text.now c.in-Err.fault c.in-Err.ensures.refused;
}
