use Rattle.laws_facts.proofs.GoalLemmas.{sound_kept}
use Rattle.laws_facts.proofs.kept.goals_are_kept.Goals as goal

pub returns-clause-sound : goal.returns-clause-sound
returns-clause-sound c = sound_kept
