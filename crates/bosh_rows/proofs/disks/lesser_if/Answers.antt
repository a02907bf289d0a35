-- The disk has the lesser number. A wrong body fails here at once.
use Rattle.std.proofs.Common.{rules}
use Rattle.bosh_rows.proofs.disks.lesser_if.Goals as goal

pub returns-in-Some : goal.returns-in-Some
returns-in-Some c = search rules
