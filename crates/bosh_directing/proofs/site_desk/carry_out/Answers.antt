use Rattle.bosh_directing.proofs.DriveLemmas.{acts_carries}
use Rattle.bosh_directing.proofs.KeepLemmas.{keeps_carried}
use Rattle.bosh_directing.proofs.site_desk.carry_out.Goals as goal

pub returns : goal.returns
returns g c = record {
  acts = acts_carries g.K.Keeper.bodies g.K.Keeper.faults g.L.Keeper.bodies g.L.Keeper.faults c.args.tasks.now 0 c.args.site.now
      c.drive.new.site c.drive.result c.drive.ensures.carries c.drive.ensures.goes;
  kept = keeps_carried g.K.Keeper.bodies g.K.Keeper.faults g.K.Keeper.is_broken g.L.Keeper.bodies g.L.Keeper.faults c.args.site.now
      c.drive.new.site c.args.tasks.now 0 c.drive.result c.drive.ensures.carries;
}
