use Rattle.bosh_world.proofs.PerformLemmas.{lacks_first}
use Rattle.bosh_world.proofs.site.Site.ask_cloud.Goals as goal

pub returns-in-Err-clause-refused : goal.returns-in-Err-clause-refused
returns-in-Err-clause-refused g c = lacks_first g.L.Keeper.bodies c.args.self.now c.requires.running
