use Rattle.laws_allowed.proofs.FailureLemmas.{failure_is_allowed}
use Rattle.laws_allowed.proofs.a_failure_that_may_be_noted_is_allowed.Goals as goal

pub returns : goal.returns
returns c = λ outside m told records error stands agrees facts. failure_is_allowed m told records stands agrees facts error
