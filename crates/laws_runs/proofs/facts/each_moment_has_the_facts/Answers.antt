use Rattle.laws_runs.proofs.ReadLemmas.{run_facts}
use Rattle.laws_runs.proofs.facts.each_moment_has_the_facts.Goals as goal

pub returns : goal.returns
returns c = run_facts
