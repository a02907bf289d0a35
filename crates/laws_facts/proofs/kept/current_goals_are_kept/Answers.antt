use Rattle.laws_facts.proofs.CurrentLemmas.{current_kept}
use Rattle.laws_facts.proofs.kept.current_goals_are_kept.Goals as goal

pub returns : goal.returns
returns c = current_kept
