use Rattle.laws_facts.proofs.MakingLemmas.{made_kept}
use Rattle.laws_facts.proofs.kept.machines_are_made_in_their_deployments.Goals as goal

pub returns : goal.returns
returns c = made_kept
