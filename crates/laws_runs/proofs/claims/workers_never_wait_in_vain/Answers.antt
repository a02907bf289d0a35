use Rattle.laws_runs.proofs.ClaimLemmas.{claims_go_on, waits_for_a_call, waits_never}
use Rattle.laws_runs.proofs.claims.workers_never_wait_in_vain.Goals as goal

pub returns-clause-awaits : goal.returns-clause-awaits
returns-clause-awaits c = waits_for_a_call

pub returns-clause-quiet : goal.returns-clause-quiet
returns-clause-quiet c = waits_never

pub returns-clause-goes_on : goal.returns-clause-goes_on
returns-clause-goes_on c = claims_go_on
