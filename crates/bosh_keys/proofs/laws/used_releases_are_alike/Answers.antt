use Rattle.bosh_keys.proofs.UsesLemmas.{used_alike}
use Rattle.bosh_keys.proofs.laws.used_releases_are_alike.Goals as goal

pub returns : goal.returns
returns c = used_alike
