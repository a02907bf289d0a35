use Rattle.laws_answered_rows.proofs.BeforeCases.{before_kept, begun_again}
use Rattle.laws_answered_rows.proofs.facts.a_row_before_its_call_has_its_facts.Goals as goal

pub returns-clause-before : goal.returns-clause-before
returns-clause-before c = before_kept

pub returns-clause-begun : goal.returns-clause-begun
returns-clause-begun c = begun_again
