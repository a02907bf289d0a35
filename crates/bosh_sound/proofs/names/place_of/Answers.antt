use Rattle.bosh_sound.proofs.OrderLemmas.{place_found, place_missing}
use Rattle.bosh_sound.proofs.names.place_of.Goals as goal

pub returns-clause-found : goal.returns-clause-found
returns-clause-found c =
    place_found c.args.names.now c.args.name.now c.binary_search.result c.ok.result c.ok.ensures.value
    (c.binary_search.ensures.bound, c.binary_search.ensures.position)

pub returns-clause-missing : goal.returns-clause-missing
returns-clause-missing c =
    place_missing c.args.names.now c.args.name.now c.binary_search.result c.ok.result c.ok.ensures.value
    (c.binary_search.ensures.bound, c.binary_search.ensures.position) c.requires
