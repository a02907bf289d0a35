use Rattle.laws_stands.proofs.WantLemmas.{want_is}
use Rattle.laws_stands.proofs.tables.wants_are_found.Goals as goal

pub returns : goal.returns
returns c = want_is
