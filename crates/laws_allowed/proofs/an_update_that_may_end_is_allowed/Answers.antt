use Rattle.laws_allowed.proofs.DoneLemmas.{update_done_is_allowed}
use Rattle.laws_allowed.proofs.an_update_that_may_end_is_allowed.Goals as goal

pub returns : goal.returns
returns c = λ outside. update_done_is_allowed
