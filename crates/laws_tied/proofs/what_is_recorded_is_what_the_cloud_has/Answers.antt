use Rattle.laws_tied.proofs.TieLemmas.{tied}
use Rattle.laws_tied.proofs.what_is_recorded_is_what_the_cloud_has.Goals as goal

pub returns : goal.returns
returns c = tied
