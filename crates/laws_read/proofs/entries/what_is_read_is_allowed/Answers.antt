use Rattle.laws_read.proofs.AllowedLemmas.{read_allowed}
use Rattle.laws_read.proofs.entries.what_is_read_is_allowed.Goals as goal

pub returns : goal.returns
returns c = read_allowed
