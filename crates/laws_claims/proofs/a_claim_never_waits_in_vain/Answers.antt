use Rattle.laws_claims.proofs.MomentLemmas.{awaits_at, goes_on_at, quiet_at}
use Rattle.laws_claims.proofs.a_claim_never_waits_in_vain.Goals as goal

pub returns-clause-awaits : goal.returns-clause-awaits
returns-clause-awaits c = awaits_at

pub returns-clause-quiet : goal.returns-clause-quiet
returns-clause-quiet c = quiet_at

pub returns-clause-goes_on : goal.returns-clause-goes_on
returns-clause-goes_on c = goes_on_at
