use Rattle.bosh_world.proofs.ToldLemmas.{refused_told_if}
use Rattle.bosh_world.proofs.site.Site.perform.Goals as goal

pub returns-in-Ok-clause-refused : goal.returns-in-Ok-clause-refused
returns-in-Ok-clause-refused g c =
    refused_told_if g.L.Keeper.bodies g.L.Keeper.faults c.args.self.now c.check_performable.new.self
    c.perform_or_stop.new.self c.args.permit c.perform_or_stop.result c.in-Ok.ensures.running c.in-Ok.ensures.ok.0
    c.in-Ok.ensures.comes.0 c.in-Ok.ensures.comes.1 c.perform_or_stop.ensures.refused
