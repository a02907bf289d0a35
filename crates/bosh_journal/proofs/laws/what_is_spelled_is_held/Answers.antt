use Rattle.bosh_journal.proofs.LawLemmas.{spelled-held}
use Rattle.bosh_journal.proofs.laws.what_is_spelled_is_held.Goals as goal

pub returns : goal.returns
returns c = spelled-held
