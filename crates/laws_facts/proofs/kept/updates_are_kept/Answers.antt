use Rattle.laws_facts.proofs.UpdateLemmas.{begun_kept}
use Rattle.laws_facts.proofs.kept.updates_are_kept.Goals as goal

pub returns : goal.returns
returns c = begun_kept
