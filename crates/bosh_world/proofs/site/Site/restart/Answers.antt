use Rattle.std.proofs.Common.{refl}
use Rattle.bosh_world.proofs.SiteRestartLemmas.{halt_of, refuses_restart, restarts_on}
use Rattle.bosh_world.proofs.site.Site.restart.Goals as goal

pub returns-in-Ok-clause-restarted : goal.returns-in-Ok-clause-restarted
returns-in-Ok-clause-restarted g c =
    restarts_on g.K.Keeper.bodies g.K.Keeper.faults g.K.Keeper.is_broken g.L.Keeper.bodies g.L.Keeper.faults
    c.args.self.now (record c.args.self.now { history = c.halt_first.new.history; is_site = _ }) c.restart_cloud.new.self
    c.restart_cloud.result
    (halt_of c.args.self.now (record c.args.self.now { history = c.halt_first.new.history; is_site = _ })
    c.entries.result.now c.effects.result.now c.entries.ensures c.effects.ensures c.in-Ok.ensures.ok.0
    c.in-Ok.ensures.ok.1 refl refl refl refl refl)
    c.restart_cloud.ensures.restarted c.restart_cloud.ensures.same

pub returns-in-Ok-clause-refused : goal.returns-in-Ok-clause-refused
returns-in-Ok-clause-refused g c =
    refuses_restart g.K.Keeper.bodies g.K.Keeper.faults g.K.Keeper.is_broken g.L.Keeper.bodies g.L.Keeper.faults
    c.args.self.now (record c.args.self.now { history = c.halt_first.new.history; is_site = _ }) c.restart_cloud.new.self
    c.restart_cloud.result
    (halt_of c.args.self.now (record c.args.self.now { history = c.halt_first.new.history; is_site = _ })
    c.entries.result.now c.effects.result.now c.entries.ensures c.effects.ensures c.in-Ok.ensures.ok.0
    c.in-Ok.ensures.ok.1 refl refl refl refl refl)
    c.restart_cloud.ensures.refused c.restart_cloud.ensures.same
