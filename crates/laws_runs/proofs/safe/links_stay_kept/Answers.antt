use Rattle.laws_runs.proofs.RunLemmas.{links_run}
use Rattle.laws_runs.proofs.safe.links_stay_kept.Goals as goal

pub returns : goal.returns
returns c = links_run
