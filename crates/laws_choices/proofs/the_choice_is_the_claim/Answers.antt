use Rattle.laws_choices.proofs.ClaimLemmas.{choice_is_claim}
use Rattle.laws_choices.proofs.the_choice_is_the_claim.Goals as goal

pub returns : goal.returns
returns c = choice_is_claim
