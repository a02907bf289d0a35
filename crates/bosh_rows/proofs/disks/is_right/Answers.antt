-- A wrong body fails here at once.
use Rattle.std.proofs.Common.{rules}
use Rattle.bosh_rows.proofs.disks.is_right.Goals as goal

pub returns : goal.returns
returns c = search rules
