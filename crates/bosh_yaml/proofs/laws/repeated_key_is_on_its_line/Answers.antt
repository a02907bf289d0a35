use Rattle.bosh_yaml.proofs.RepeatedLineLemmas.{repeats_none_before, repeats_up_to}
use Rattle.bosh_yaml.proofs.laws.repeated_key_is_on_its_line.Goals as goal

pub returns : goal.returns
returns c = record { up_to = repeats_up_to; before = repeats_none_before }
