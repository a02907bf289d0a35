use Rattle.std.proofs.Common.{refl}
use Rattle.bosh_base.specs.Call.{method_of}
use Rattle.bosh_world.proofs.CallLemmas.{follows_at}
use Rattle.bosh_world.proofs.ToldLemmas.{cloud_refuses}
use Rattle.bosh_world.specs.Faults.{halt_by_cloud}
use Rattle.bosh_world.proofs.site.Site.ask_foreseen.Goals as goal

pub returns-in-Err-clause-refused : goal.returns-in-Err-clause-refused
returns-in-Err-clause-refused g c =
    cloud_refuses g.L.Keeper.bodies g.L.Keeper.faults c.args.self.now _ c.args.permit.now
    (record { n = c.n.result; owner = c.owner.result.now; dep = c.dep.result.now; call = c.call.result.now })
    c.in-Err.fault c.refused_by_cloud.result c.n.ensures c.owner.ensures c.dep.ensures c.call.ensures
    c.refused_by_cloud.ensures.answer c.in-Err.ensures.does c.in-Err.ensures.fates c.requires.running
    c.args.self.now.is_site.is_of (c.args.self.now.is_site.cloud_runs c.requires.running) c.requires.unstopped
    c.see_refused.ensures refl refl refl
    (follows_at c.args.self.now.history c.refused_by_cloud.new.history c.args.self.now.book.journal.entries
    c.entries.result.now c.perform.new.self.effects c.effects-in-Err.result.now (halt_by_cloud c.in-Err.fault)
    c.entries.ensures c.effects-in-Err.ensures c.refused_by_cloud.ensures.follows)
