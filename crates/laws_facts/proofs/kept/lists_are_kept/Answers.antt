use Rattle.laws_facts.proofs.LossLemmas.{lists_kept}
use Rattle.laws_facts.proofs.kept.lists_are_kept.Goals as goal

pub returns : goal.returns
returns c = lists_kept
