use Rattle.laws_cloud.proofs.NumberLemmas.{numbers_kept}
use Rattle.laws_cloud.proofs.effects_are_those_of_their_calls.Goals as goal

pub returns : goal.returns
returns c = numbers_kept
