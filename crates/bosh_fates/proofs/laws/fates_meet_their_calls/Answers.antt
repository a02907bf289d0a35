use Rattle.bosh_fates.proofs.FateRunLemmas.{decided-after, met-after}
use Rattle.bosh_fates.proofs.laws.fates_meet_their_calls.Goals as goal

pub returns-clause-decided : goal.returns-clause-decided
returns-clause-decided c = decided-after

pub returns-clause-met : goal.returns-clause-met
returns-clause-met c = met-after
