use Rattle.laws_held.proofs.SafeLemmas.{tied_run}
use Rattle.laws_held.proofs.records_stay_what_the_cloud_has.Goals as goal

pub returns : goal.returns
returns c = tied_run
