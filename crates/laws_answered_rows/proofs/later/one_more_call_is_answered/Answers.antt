use Rattle.laws_answered_rows.proofs.LaterLemmas.{later_row, one_more}
use Rattle.laws_answered_rows.proofs.later.one_more_call_is_answered.Goals as goal

pub returns-clause-answered : goal.returns-clause-answered
returns-clause-answered c = one_more

pub returns-clause-row : goal.returns-clause-row
returns-clause-row c = later_row
