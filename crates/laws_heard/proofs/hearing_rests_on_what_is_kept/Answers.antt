use Rattle.laws_heard.proofs.KeptLemmas.{hearing_kept}
use Rattle.laws_heard.proofs.hearing_rests_on_what_is_kept.Goals as goal

pub returns : goal.returns
returns c = hearing_kept
