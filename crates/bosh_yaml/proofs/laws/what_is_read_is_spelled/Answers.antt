use Rattle.bosh_yaml.proofs.ReadSpellingLemmas.{read_is_spelled}
use Rattle.bosh_yaml.proofs.laws.what_is_read_is_spelled.Goals as goal

pub returns : goal.returns
returns c = read_is_spelled
