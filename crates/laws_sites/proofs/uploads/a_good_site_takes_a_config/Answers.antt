use Rattle.laws_sites.proofs.UploadLemmas.{config_good, config_refused}
use Rattle.laws_sites.proofs.uploads.a_good_site_takes_a_config.Goals as goal

pub returns-clause-taken : goal.returns-clause-taken
returns-clause-taken g c = λ outside o file fit found good is notes calls.
    config_good outside g.K.Keeper.bodies g.L.Keeper.bodies g.K.Keeper.faults o c.args.was.now c.args.now.now fit good calls
    found file is notes

pub returns-clause-refused : goal.returns-clause-refused
returns-clause-refused g c = λ outside o file fault fit found good refuses pends calls.
    config_refused outside g.K.Keeper.bodies g.L.Keeper.bodies g.K.Keeper.faults o c.args.was.now c.args.now.now fit good
    calls found file fault refuses pends
