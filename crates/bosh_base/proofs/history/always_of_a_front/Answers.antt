use Rattle.bosh_base.proofs.HistoryLemmas.{AlwaysFrom_front}
use Rattle.bosh_base.proofs.history.always_of_a_front.Goals as goal

pub returns : goal.returns
returns g c = AlwaysFrom_front g.I.Invariant.holds
