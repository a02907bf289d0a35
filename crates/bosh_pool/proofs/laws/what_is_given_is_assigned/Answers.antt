use Rattle.bosh_pool.proofs.AssignedLemmas.{given-assigned}
use Rattle.bosh_pool.proofs.laws.what_is_given_is_assigned.Goals as goal

pub returns : goal.returns
returns c = given-assigned
