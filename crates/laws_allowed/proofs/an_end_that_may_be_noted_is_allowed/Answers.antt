use Rattle.laws_allowed.proofs.CallLemmas.{end_is_allowed}
use Rattle.laws_allowed.proofs.an_end_that_may_be_noted_is_allowed.Goals as goal

pub returns : goal.returns
returns c = λ outside. end_is_allowed
