use Rattle.laws_sites.proofs.UploadLemmas.{release_good, release_refused}
use Rattle.laws_sites.proofs.uploads.a_good_site_takes_a_release.Goals as goal

pub returns-clause-taken : goal.returns-clause-taken
returns-clause-taken g c = λ outside o release added fit found good is notes calls.
    release_good outside g.K.Keeper.bodies g.L.Keeper.bodies g.K.Keeper.faults o c.args.was.now c.args.now.now fit good calls
    found release added is notes

pub returns-clause-refused : goal.returns-clause-refused
returns-clause-refused g c = λ outside o release fault fit found good refuses pends calls.
    release_refused outside g.K.Keeper.bodies g.L.Keeper.bodies g.K.Keeper.faults o c.args.was.now c.args.now.now fit good
    calls found release fault refuses pends
