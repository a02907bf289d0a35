use Rattle.bosh_ip.proofs.AddressLemmas.{SpellsAddr_unique}
use Rattle.bosh_ip.proofs.NetworkLemmas.{SpellsCidr_unique}
use Rattle.bosh_ip.proofs.RangeLemmas.{SpellsSpan_unique}
use Rattle.bosh_ip.proofs.laws.spelled_once.Goals as goal

pub returns : goal.returns
returns c = record { addr = SpellsAddr_unique; cidr = SpellsCidr_unique; range = SpellsSpan_unique }
