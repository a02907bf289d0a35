use Rattle.laws_runs.proofs.PartLemmas.{known_parts}
use Rattle.laws_runs.proofs.facts.each_part_keeps_the_facts.Goals as goal

pub returns : goal.returns
returns c = known_parts
