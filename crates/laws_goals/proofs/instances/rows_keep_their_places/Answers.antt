use Rattle.laws_goals.proofs.KeptLemmas.{keeps-place}
use Rattle.laws_goals.proofs.instances.rows_keep_their_places.Goals as goal

pub returns : goal.returns
returns c = keeps-place
