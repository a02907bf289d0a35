use Rattle.laws_allowed.proofs.UpdateLemmas.{update_is_allowed}
use Rattle.laws_allowed.proofs.an_update_that_may_begin_is_allowed.Goals as goal

pub returns : goal.returns
returns c = λ outside. update_is_allowed
