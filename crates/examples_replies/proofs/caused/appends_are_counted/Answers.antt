use Rattle.std.proofs.Common.{arith, refl}
use Rattle.examples_replies.proofs.caused.appends_are_counted.Goals as goal

pub returns-clause-noted : goal.returns-clause-noted
returns-clause-noted c = (refl, refl)

pub returns-clause-not_stopped : goal.returns-clause-not_stopped
returns-clause-not_stopped c now caused = grind (arith, caused.0)

pub returns-clause-not_failed : goal.returns-clause-not_failed
returns-clause-not_failed c now caused = grind (arith, caused.0)
