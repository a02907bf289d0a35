use Rattle.laws_runs.proofs.RunLemmas.{phases_run}
use Rattle.laws_runs.proofs.safe.calls_follow_their_phases.Goals as goal

pub returns : goal.returns
returns c = phases_run
