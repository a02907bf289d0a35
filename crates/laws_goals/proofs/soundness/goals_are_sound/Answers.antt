use Rattle.laws_goals.proofs.RecordLemmas.{is-sound}
use Rattle.laws_goals.proofs.soundness.goals_are_sound.Goals as goal

pub returns : goal.returns
returns c = is-sound
