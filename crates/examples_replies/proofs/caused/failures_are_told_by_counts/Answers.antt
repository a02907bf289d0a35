use Rattle.std.proofs.Common.{arith}
use Rattle.examples_replies.proofs.caused.failures_are_told_by_counts.Goals as goal

pub returns-clause-rose : goal.returns-clause-rose
returns-clause-rose c = record { shelf = omega arith; director = omega arith; cloud = omega arith }

pub returns-clause-stood : goal.returns-clause-stood
returns-clause-stood c counted = grind (arith, counted.director)

pub returns-clause-at_its_last : goal.returns-clause-at_its_last
returns-clause-at_its_last c = record { shelf = omega arith; director = omega arith; cloud = omega arith }
