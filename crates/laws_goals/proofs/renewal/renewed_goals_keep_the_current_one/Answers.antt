use Rattle.laws_goals.proofs.AnewLemmas.{is-renewed}
use Rattle.laws_goals.proofs.renewal.renewed_goals_keep_the_current_one.Goals as goal

pub returns : goal.returns
returns c = is-renewed
