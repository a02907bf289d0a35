use Rattle.std.proofs.Common.{◌≡◌, take}
use Rattle.bosh_wants.specs.Wants.{kept}
use Rattle.bosh_wants.proofs.holding.kept.Given as goal

abbrev pub invariant-loop-row : goal.invariant-loop-row
invariant-loop-row l = l.held.items ≡ kept l.dep l.groups (take l.row-index l.rows)
