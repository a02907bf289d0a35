use Rattle.laws_goals.proofs.FreeLemmas.{has-free-addresses}
use Rattle.laws_goals.proofs.addresses.goals_have_free_addresses.Goals as goal

pub returns : goal.returns
returns c = has-free-addresses
