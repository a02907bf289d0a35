use Rattle.laws_read.proofs.ReadLemmas.{read_stands}
use Rattle.laws_read.proofs.entries.what_is_read_stands.Goals as goal

pub returns : goal.returns
returns c = read_stands
