use Rattle.laws_undamaged.proofs.OutsideLemmas.{run_sound}
use Rattle.laws_undamaged.proofs.outside.what_came_from_outside_is_sound.Goals as goal

pub returns : goal.returns
returns c = run_sound
