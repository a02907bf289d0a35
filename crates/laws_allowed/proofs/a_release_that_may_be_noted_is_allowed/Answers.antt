use Rattle.laws_allowed.proofs.UploadLemmas.{release_is_allowed}
use Rattle.laws_allowed.proofs.a_release_that_may_be_noted_is_allowed.Goals as goal

pub returns : goal.returns
returns c = release_is_allowed
