use Rattle.laws_read.proofs.ReadLemmas.{rest_agrees}
use Rattle.laws_read.proofs.entries.what_is_read_agrees.Goals as goal

pub returns : goal.returns
returns c = rest_agrees
