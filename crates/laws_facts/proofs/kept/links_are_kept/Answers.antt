use Rattle.laws_facts.proofs.OfferLemmas.{ties_kept}
use Rattle.laws_facts.proofs.kept.links_are_kept.Goals as goal

pub returns : goal.returns
returns c = ties_kept
