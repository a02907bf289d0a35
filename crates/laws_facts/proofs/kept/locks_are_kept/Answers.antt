use Rattle.laws_facts.proofs.LockLemmas.{locks_kept}
use Rattle.laws_facts.proofs.kept.locks_are_kept.Goals as goal

pub returns : goal.returns
returns c = locks_kept
