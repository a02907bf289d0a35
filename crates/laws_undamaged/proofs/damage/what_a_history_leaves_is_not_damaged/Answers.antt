use Rattle.laws_outside.specs.Shipped.{shipped}
use Rattle.laws_undamaged.proofs.LeftLemmas.{durable_whole, fit_whole}
use Rattle.laws_undamaged.proofs.ShippedLemmas.{shipped_tells_rightly}
use Rattle.laws_undamaged.proofs.damage.what_a_history_leaves_is_not_damaged.Goals as goal

pub returns-clause-shipped : goal.returns-clause-shipped
returns-clause-shipped c = fit_whole shipped shipped_tells_rightly

pub returns-clause-fit : goal.returns-clause-fit
returns-clause-fit c = fit_whole

pub returns-clause-durable : goal.returns-clause-durable
returns-clause-durable c = durable_whole
