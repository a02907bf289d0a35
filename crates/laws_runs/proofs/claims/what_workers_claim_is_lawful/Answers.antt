use Rattle.laws_runs.proofs.ClaimLemmas.{claims_are_lawful}
use Rattle.laws_runs.proofs.claims.what_workers_claim_is_lawful.Goals as goal

pub returns : goal.returns
returns c = claims_are_lawful
