use Rattle.laws_held.proofs.SafeLemmas.{safe_run}
use Rattle.laws_held.proofs.permitted_histories_are_safe.Goals as goal

pub returns : goal.returns
returns c = safe_run
