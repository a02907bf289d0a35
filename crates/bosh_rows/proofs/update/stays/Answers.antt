-- A wrong body fails here at once.
use Rattle.std.proofs.Common.{rules}
use Rattle.bosh_rows.proofs.update.stays.Goals as goal

pub returns-else-is_some : goal.returns-else-is_some
returns-else-is_some c = search rules
