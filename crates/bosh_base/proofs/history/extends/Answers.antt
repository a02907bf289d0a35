use Rattle.bosh_base.proofs.HistoryLemmas.{Extends_refl, Extends_append, Extends_trans}
use Rattle.bosh_base.proofs.history.extends.Goals as goal

pub returns-clause-itself : goal.returns-clause-itself
returns-clause-itself g c = Extends_refl

pub returns-clause-front : goal.returns-clause-front
returns-clause-front g c = Extends_append

pub returns-clause-chain : goal.returns-clause-chain
returns-clause-chain g c = Extends_trans
