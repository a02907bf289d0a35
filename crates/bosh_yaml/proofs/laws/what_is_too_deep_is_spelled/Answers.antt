use Rattle.bosh_yaml.proofs.DeepLemmas.{deep_is_spelled}
use Rattle.bosh_yaml.proofs.laws.what_is_too_deep_is_spelled.Goals as goal

pub returns : goal.returns
returns c = deep_is_spelled
