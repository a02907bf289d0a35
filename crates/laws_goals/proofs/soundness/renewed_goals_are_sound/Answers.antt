use Rattle.laws_goals.proofs.CurrentLemmas.{is-sound-anew}
use Rattle.laws_goals.proofs.soundness.renewed_goals_are_sound.Goals as goal

pub returns : goal.returns
returns c = is-sound-anew
