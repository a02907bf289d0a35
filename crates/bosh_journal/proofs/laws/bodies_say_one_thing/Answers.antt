use Rattle.bosh_journal.proofs.LawLemmas.{none-damaged, one_spelled}
use Rattle.bosh_journal.proofs.laws.bodies_say_one_thing.Goals as goal

pub returns-clause-entries : goal.returns-clause-entries
returns-clause-entries c = one_spelled

pub returns-clause-damage : goal.returns-clause-damage
returns-clause-damage c = none-damaged
