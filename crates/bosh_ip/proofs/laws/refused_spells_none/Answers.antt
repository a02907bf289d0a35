use Rattle.bosh_ip.proofs.NetworkLemmas.{RefusesCidr-none}
use Rattle.bosh_ip.proofs.RangeLemmas.{RefusesRange-none}
use Rattle.bosh_ip.proofs.laws.refused_spells_none.Goals as goal

pub returns : goal.returns
returns c = record { cidr = RefusesCidr-none; range = RefusesRange-none }
