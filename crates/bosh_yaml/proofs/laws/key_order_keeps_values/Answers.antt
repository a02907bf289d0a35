use Rattle.bosh_yaml.proofs.OrderLemmas.{keys_ascend, same_values}
use Rattle.bosh_yaml.proofs.laws.key_order_keeps_values.Goals as goal

pub returns : goal.returns
returns c = record { ascending = keys_ascend; values = same_values }
