use Rattle.laws_stands.proofs.ChoiceLemmas.{choice_is}
use Rattle.laws_stands.proofs.choices.what_is_chosen_is_what_is_claimed.Goals as goal

pub returns : goal.returns
returns c = choice_is
