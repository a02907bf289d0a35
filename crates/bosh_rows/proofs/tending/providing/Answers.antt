-- The active disk is in its place, or is put there, before another takes its place.
use Rattle.std.proofs.Common.{arith}
use Rattle.bosh_rows.proofs.StepLemmas.{first_of_two}
use Rattle.bosh_rows.proofs.tending.providing.Goals as goal

pub returns-in-Some-2 : goal.returns-in-Some-2
returns-in-Some-2 c = grind (arith, first_of_two)
