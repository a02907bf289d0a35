use Rattle.bosh_ip.proofs.AddressLemmas.{spelling-reads}
use Rattle.bosh_ip.proofs.laws.shown_reads_back.Goals as goal

pub returns : goal.returns
returns c = spelling-reads
