use Rattle.bosh_base.proofs.HistoryLemmas.{AlwaysFrom_last}
use Rattle.bosh_base.proofs.history.always_of_one_more.Goals as goal

pub returns : goal.returns
returns g c = AlwaysFrom_last g.I.Invariant.holds
