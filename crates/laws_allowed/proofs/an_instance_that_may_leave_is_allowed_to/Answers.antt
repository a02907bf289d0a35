use Rattle.laws_allowed.proofs.GoneLemmas.{leaving_is_allowed}
use Rattle.laws_allowed.proofs.an_instance_that_may_leave_is_allowed_to.Goals as goal

pub returns : goal.returns
returns c = λ outside. leaving_is_allowed
