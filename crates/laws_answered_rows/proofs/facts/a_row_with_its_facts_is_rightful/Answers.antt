use Rattle.laws_answered_rows.proofs.OwnLemmas.{rightful_of}
use Rattle.laws_answered_rows.proofs.facts.a_row_with_its_facts_is_rightful.Goals as goal

pub returns : goal.returns
returns c = rightful_of
