-- There is an active disk. A wrong body fails here at once.
use Rattle.std.proofs.Common.{arith}
use Rattle.bosh_rows.proofs.DiskLemmas.{has_active}
use Rattle.bosh_rows.proofs.answered.new_role.Goals as goal

pub returns-in-Some : goal.returns-in-Some
returns-in-Some c = grind (arith, has_active)
