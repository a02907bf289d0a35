-- A wrong body fails here at once.
use Rattle.std.proofs.Common.{rules}
use Rattle.bosh_rows.proofs.standing.has_disks.Goals as goal

pub returns-then-is_active : goal.returns-then-is_active
returns-then-is_active c = search rules
