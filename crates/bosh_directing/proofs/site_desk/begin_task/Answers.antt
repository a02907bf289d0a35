use Rattle.bosh_directing.proofs.ActLemmas.{acts_opens}
use Rattle.bosh_directing.proofs.KeepLemmas.{keeps_task_answered}
use Rattle.bosh_directing.proofs.site_desk.begin_task.Goals as goal

pub returns : goal.returns
returns g c = record {
  acts = acts_opens g.K.Keeper.bodies g.K.Keeper.faults c.args.site.now c.begin_task.new.self c.args.ask.now
      c.begin_task.result c.begin_task.ensures.opens c.begin_task.ensures.refused;
  kept = keeps_task_answered g.K.Keeper.bodies g.K.Keeper.faults g.K.Keeper.is_broken g.L.Keeper.bodies g.L.Keeper.faults
      c.args.site.now c.begin_task.new.self c.args.ask.now c.begin_task.result c.see_checked.ensures
      c.begin_task.ensures.calls c.begin_task.ensures.opens c.begin_task.ensures.refused c.begin_task.ensures.pending;
}
