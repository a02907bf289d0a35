use Rattle.laws_answered_rows.proofs.LaterLemmas.{answered_of}
use Rattle.laws_answered_rows.proofs.later.a_row_with_its_facts_is_asked.Goals as goal

pub returns : goal.returns
returns c = answered_of
