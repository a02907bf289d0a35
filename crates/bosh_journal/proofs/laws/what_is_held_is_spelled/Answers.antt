use Rattle.bosh_journal.proofs.LawLemmas.{older-spelled, present-spelled}
use Rattle.bosh_journal.proofs.laws.what_is_held_is_spelled.Goals as goal

pub returns-clause-present : goal.returns-clause-present
returns-clause-present c = present-spelled

pub returns-clause-older : goal.returns-clause-older
returns-clause-older c = older-spelled
