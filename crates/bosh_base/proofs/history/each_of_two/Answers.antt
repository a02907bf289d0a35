use Rattle.bosh_base.proofs.HistoryLemmas.{EachAfter_append}
use Rattle.bosh_base.proofs.history.each_of_two.Goals as goal

pub returns : goal.returns
returns g c = EachAfter_append g.R.Rule.permits
