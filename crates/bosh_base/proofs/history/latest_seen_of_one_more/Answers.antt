use Rattle.bosh_base.proofs.HistoryLemmas.{latest_seen_last}
use Rattle.bosh_base.proofs.history.latest_seen_of_one_more.Goals as goal

pub returns : goal.returns
returns g c = latest_seen_last
