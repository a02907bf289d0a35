use Rattle.bosh_yaml.proofs.JsonOnceLemmas.{json_has_each_once}
use Rattle.bosh_yaml.proofs.RepeatedLemmas.{repeated_is_refused}
use Rattle.bosh_yaml.proofs.laws.what_repeats_a_key_is_refused.Goals as goal

pub returns : goal.returns
returns c = record { refused = repeated_is_refused; json = json_has_each_once }
