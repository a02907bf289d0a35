use Rattle.bosh_yaml.proofs.SpellingLemmas.{spells_once}
use Rattle.bosh_yaml.proofs.laws.spelled_once.Goals as goal

pub returns : goal.returns
returns c = spells_once
