use Rattle.laws_tasks.proofs.LimitLemmas.{limits_kept}
use Rattle.laws_tasks.proofs.updates_stay_within_limits.Goals as goal

pub returns : goal.returns
returns c = limits_kept
