use Rattle.laws_sites.proofs.UploadLemmas.{stemcell_good, stemcell_refused}
use Rattle.laws_sites.proofs.uploads.a_good_site_takes_a_stemcell.Goals as goal

pub returns-clause-taken : goal.returns-clause-taken
returns-clause-taken g c = λ outside o os version added fit found good is notes calls.
    stemcell_good outside g.K.Keeper.bodies g.L.Keeper.bodies g.K.Keeper.faults o c.args.was.now c.args.now.now fit good calls
    found os version added is notes

pub returns-clause-refused : goal.returns-clause-refused
returns-clause-refused g c = λ outside o os version fault fit found good refuses pends calls.
    stemcell_refused outside g.K.Keeper.bodies g.L.Keeper.bodies g.K.Keeper.faults o c.args.was.now c.args.now.now fit good
    calls found os version fault refuses pends
