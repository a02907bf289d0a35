use Rattle.laws_sites.proofs.CallLemmas.{calls_begun, calls_ended, calls_performed}
use Rattle.laws_sites.proofs.calls.open_calls_are_those_of_the_moment.Goals as goal

pub returns-clause-begun : goal.returns-clause-begun
returns-clause-begun c = calls_begun

pub returns-clause-performed : goal.returns-clause-performed
returns-clause-performed c = calls_performed

pub returns-clause-ended : goal.returns-clause-ended
returns-clause-ended c = calls_ended
