use Rattle.bosh_yaml.proofs.SpellingLemmas.{spelled_is_read, spelled_too_deep}
use Rattle.bosh_yaml.proofs.laws.what_is_spelled_is_read.Goals as goal

pub returns : goal.returns
returns c = record { read = spelled_is_read; too_deep = spelled_too_deep }
