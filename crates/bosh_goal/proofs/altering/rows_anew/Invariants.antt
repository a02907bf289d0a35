use Rattle.std.proofs.Common.{◌≡◌, map, take}
use Rattle.bosh_goal.specs.Anew.{row_anew}
use Rattle.bosh_goal.proofs.altering.rows_anew.Given as goal

abbrev pub invariant-loop-row : goal.invariant-loop-row
invariant-loop-row l = l.all.items ≡ map (row_anew l.inst l.change l.last_call) (take l.row-index l.rows)
