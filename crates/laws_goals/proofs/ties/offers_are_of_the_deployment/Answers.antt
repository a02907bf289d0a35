use Rattle.laws_goals.proofs.TieLemmas.{has-own-offers}
use Rattle.laws_goals.proofs.ties.offers_are_of_the_deployment.Goals as goal

pub returns : goal.returns
returns c = has-own-offers
