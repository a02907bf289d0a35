use Rattle.bosh_goal.proofs.InstanceLemmas.{has-instances}
use Rattle.bosh_goal.proofs.laws.rows_are_of_the_instances.Goals as goal

pub returns : goal.returns
returns c = has-instances
