use Rattle.bosh_cloudcfg.proofs.ApartLemmas.{configured_apart}
use Rattle.bosh_cloudcfg.proofs.laws.checked_subnets_are_apart.Goals as goal

pub returns : goal.returns
returns c = configured_apart
