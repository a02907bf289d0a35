use Rattle.laws_outside.proofs.ReleaseLemmas.{alike_decides, goes_with_decides, sound_decides}
use Rattle.laws_outside.proofs.decides.it_is_decided_which_releases_go_with_one_another.Goals as goal

pub returns-clause-goes_with : goal.returns-clause-goes_with
returns-clause-goes_with c = goes_with_decides

pub returns-clause-sound : goal.returns-clause-sound
returns-clause-sound c = sound_decides

pub returns-clause-alike : goal.returns-clause-alike
returns-clause-alike c = alike_decides
