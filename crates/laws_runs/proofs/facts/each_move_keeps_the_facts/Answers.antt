use Rattle.laws_runs.proofs.KeptLemmas.{facts_kept}
use Rattle.laws_runs.proofs.facts.each_move_keeps_the_facts.Goals as goal

pub returns : goal.returns
returns c = facts_kept
