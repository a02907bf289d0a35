use Rattle.laws_answered_rows.proofs.FactCases.{facts_kept}
use Rattle.laws_answered_rows.proofs.facts.one_call_keeps_the_facts_of_a_row.Goals as goal

pub returns : goal.returns
returns c = facts_kept
