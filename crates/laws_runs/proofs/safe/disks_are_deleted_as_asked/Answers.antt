use Rattle.laws_runs.proofs.RunLemmas.{deletions_run}
use Rattle.laws_runs.proofs.safe.disks_are_deleted_as_asked.Goals as goal

pub returns : goal.returns
returns c = deletions_run
