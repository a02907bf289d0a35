use Rattle.bosh_base.proofs.HistoryLemmas.{EachAfter_front, EachAfter_back}
use Rattle.bosh_base.proofs.history.each_of_a_front.Goals as goal

pub returns-clause-front : goal.returns-clause-front
returns-clause-front g c = EachAfter_front g.R.Rule.permits

pub returns-clause-rest : goal.returns-clause-rest
returns-clause-rest g c = EachAfter_back g.R.Rule.permits
