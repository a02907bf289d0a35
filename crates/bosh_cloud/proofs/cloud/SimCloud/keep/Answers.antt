use Rattle.std.proofs.Common.{Some, ap, refl}
use Rattle.bosh_cloud.proofs.DoesLemmas.{Does-failed_seen, Does-kept_seen, failed-store}
use Rattle.bosh_cloud.proofs.cloud.SimCloud.keep.Goals as goal

pub returns-in-Ok-clause-does : goal.returns-in-Ok-clause-does
returns-in-Ok-clause-does g c =
    Does-kept_seen g.L.Keeper.bodies g.L.Keeper.faults _ _ _ _ c.args.entry c.self.view_is c.requires.whole refl
    c.in-Ok.ensures.ok c.in-Ok.ensures.store.1 c.put.ensures.count c.requires.follows

pub returns-in-Err-StoreFailed-clause-does : goal.returns-in-Err-StoreFailed-clause-does
returns-in-Err-StoreFailed-clause-does g c =
    Does-failed_seen g.L.Keeper.bodies g.L.Keeper.faults _ _ _ c.args.entry c.self.view_is c.requires.whole refl
    (ap Some c.requires.spelled) c.in-Err-StoreFailed.ensures.refused
    (failed-store g.L.Keeper.bodies g.L.Keeper.faults g.L.Keeper.is_broken _ _ _ _ c.in-Err-StoreFailed.field-0-is
    c.in-Err-StoreFailed.ensures.store).0
    (failed-store g.L.Keeper.bodies g.L.Keeper.faults g.L.Keeper.is_broken _ _ _ _ c.in-Err-StoreFailed.field-0-is
    c.in-Err-StoreFailed.ensures.store).1
    c.put.ensures.count c.requires.follows
