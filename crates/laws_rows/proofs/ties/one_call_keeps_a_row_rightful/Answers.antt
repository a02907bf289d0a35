use Rattle.laws_rows.proofs.RightCaseLemmas.{still_right, sound_after}
use Rattle.laws_rows.proofs.ties.one_call_keeps_a_row_rightful.Goals as goal

pub returns-clause-rightful : goal.returns-clause-rightful
returns-clause-rightful c = still_right

pub returns-clause-sound : goal.returns-clause-sound
returns-clause-sound c = sound_after
