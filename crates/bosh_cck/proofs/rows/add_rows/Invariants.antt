use Rattle.std.proofs.Common.{◌≡◌, ◌++◌, take}
use Rattle.std.specs.List.{flat_map}
use Rattle.bosh_cck.specs.Problems.{row_problems}
use Rattle.bosh_cck.specs.Tables.{has, owned_by}
use Rattle.bosh_cck.proofs.rows.add_rows.Given as goal

abbrev pub invariant-loop-row : goal.invariant-loop-row
invariant-loop-row l =
    l.problems.items ≡ l.fn.problems.items ++ flat_map (λ row. row_problems (owned_by l.owned row.inst) (has l.there) row) (take l.row-index l.rows)
