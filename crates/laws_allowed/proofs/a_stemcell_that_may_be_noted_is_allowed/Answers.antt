use Rattle.laws_allowed.proofs.UploadLemmas.{stemcell_is_allowed}
use Rattle.laws_allowed.proofs.a_stemcell_that_may_be_noted_is_allowed.Goals as goal

pub returns : goal.returns
returns c = λ outside. stemcell_is_allowed
