use Rattle.bosh_base.proofs.VersionOrderLemmas.{version_order-itself, version_order-exchanged, version_order-chain, version_order-alike}
use Rattle.bosh_base.proofs.version.version_order_is_total.Goals as goal

pub returns-clause-itself : goal.returns-clause-itself
returns-clause-itself c = version_order-itself

pub returns-clause-exchanged : goal.returns-clause-exchanged
returns-clause-exchanged c = version_order-exchanged

pub returns-clause-chain : goal.returns-clause-chain
returns-clause-chain c = version_order-chain

pub returns-clause-alike : goal.returns-clause-alike
returns-clause-alike c = version_order-alike
