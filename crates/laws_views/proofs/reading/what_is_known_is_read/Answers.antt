use Rattle.laws_views.proofs.ReadLemmas.{reads_known}
use Rattle.laws_views.proofs.reading.what_is_known_is_read.Goals as goal

pub returns : goal.returns
returns c = reads_known
