use Rattle.bosh_base.proofs.HistoryLemmas.{kept_along, always_along}
use Rattle.bosh_base.proofs.history.kept_along.Goals as goal

pub returns-clause-at_the_end : goal.returns-clause-at_the_end
returns-clause-at_the_end g c = kept_along g.I.Rule.permits g.I.Invariant.holds g.met.I.Invariant.step

pub returns-clause-always : goal.returns-clause-always
returns-clause-always g c = always_along g.I.Rule.permits g.I.Invariant.holds g.met.I.Invariant.step
