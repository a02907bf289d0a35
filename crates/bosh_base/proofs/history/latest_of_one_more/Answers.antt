use Rattle.bosh_base.proofs.HistoryLemmas.{latest_last}
use Rattle.bosh_base.proofs.history.latest_of_one_more.Goals as goal

pub returns : goal.returns
returns g c = latest_last
