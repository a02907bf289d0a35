use Rattle.bosh_base.proofs.VersionOrderLemmas.{version_order-equal, version_order-same}
use Rattle.bosh_base.proofs.version.equal_versions_are_one.Goals as goal

pub returns : goal.returns
returns c = λ a b. (version_order-equal a b, version_order-same a b)
