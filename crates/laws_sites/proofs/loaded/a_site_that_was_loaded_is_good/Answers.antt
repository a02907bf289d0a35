use Rattle.laws_sites.proofs.LoadLemmas.{loaded_good}
use Rattle.laws_sites.proofs.loaded.a_site_that_was_loaded_is_good.Goals as goal
use Rattle.laws_stands_kept.proofs.KeptLemmas.{one_more_stands}

pub returns : goal.returns
returns g c = λ outside tells cloud_tells loads fit.
    loaded_good g.K.Keeper.bodies g.K.Keeper.faults g.K.Keeper.is_broken g.L.Keeper.bodies g.L.Keeper.faults c.args.store.now
    c.args.cloud.now c.args.site.now loads tells cloud_tells outside one_more_stands fit
