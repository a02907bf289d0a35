use Rattle.laws_allowed.proofs.SlotLemmas.{begin_is_allowed}
use Rattle.laws_allowed.proofs.a_call_that_may_begin_is_allowed.Goals as goal

pub returns : goal.returns
returns c = λ outside. begin_is_allowed
