use Rattle.laws_goals.proofs.LeftLemmas.{has-keys-left}
use Rattle.laws_goals.proofs.renewal.renewed_goals_can_be_compiled.Goals as goal

pub returns : goal.returns
returns c = has-keys-left
