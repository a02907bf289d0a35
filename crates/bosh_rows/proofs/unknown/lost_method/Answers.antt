-- A wrong body fails here at once.
use Rattle.std.proofs.Common.{rules}
use Rattle.bosh_rows.proofs.unknown.lost_method.Goals as goal

pub returns-in_default : goal.returns-in_default
returns-in_default c = search rules
