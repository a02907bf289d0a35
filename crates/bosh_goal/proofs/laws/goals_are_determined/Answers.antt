use Rattle.bosh_goal.proofs.DeterminedLemmas.{no_refusal, one_goal, one_refusal}
use Rattle.bosh_goal.proofs.laws.goals_are_determined.Goals as goal

pub returns : goal.returns
returns c = record { goal = one_goal; given = no_refusal; refused = one_refusal }
