use Rattle.laws_claims.proofs.MomentLemmas.{lawful_at}
use Rattle.laws_claims.proofs.what_is_claimed_is_lawful.Goals as goal

pub returns : goal.returns
returns c = lawful_at
