use Rattle.laws_facts.proofs.BuiltLemmas.{viewed_of}
use Rattle.laws_facts.proofs.kept.each_history_lists_its_keys.Goals as goal

pub returns-clause-viewed : goal.returns-clause-viewed
returns-clause-viewed c = viewed_of
