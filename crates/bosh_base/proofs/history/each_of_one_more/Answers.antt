use Rattle.bosh_base.proofs.HistoryLemmas.{EachAfter_last}
use Rattle.bosh_base.proofs.history.each_of_one_more.Goals as goal

pub returns : goal.returns
returns g c = EachAfter_last g.R.Rule.permits
