use Rattle.std.proofs.Common.{refl}
use Rattle.bosh_world.proofs.PerformLemmas.{held_as, performs_as}
use Rattle.bosh_world.proofs.site.Site.perform_now.Goals as goal

pub returns-in-Ok-clause-performed : goal.returns-in-Ok-clause-performed
returns-in-Ok-clause-performed g c = (
  refl,
  performs_as g.L.Keeper.bodies g.L.Keeper.faults c.args.self.now c.ask_cloud.new.self c.hold.new.self c.args.permit
      c.in-Ok.did c.in-Ok.answer c.in-Ok.ensures.asked c.hold.ensures.holds c.args.self.now.is_site.is_of c.requires.told
      c.requires.running c.requires.unstopped,
)

pub returns-in-Ok-clause-held : goal.returns-in-Ok-clause-held
returns-in-Ok-clause-held g c =
    held_as g.L.Keeper.bodies g.L.Keeper.faults c.args.self.now c.ask_cloud.new.self c.hold.new.self c.args.permit
    c.in-Ok.did c.in-Ok.answer c.requires.performable c.in-Ok.ensures.asked c.hold.ensures.holds
