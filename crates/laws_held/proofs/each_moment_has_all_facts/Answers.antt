use Rattle.laws_held.proofs.HeldLemmas.{run_holds}
use Rattle.laws_held.proofs.each_moment_has_all_facts.Goals as goal

pub returns : goal.returns
returns c = λ outside o moves fit run. (run_holds outside o moves fit run).holds
