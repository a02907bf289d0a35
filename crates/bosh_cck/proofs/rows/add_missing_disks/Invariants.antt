use Rattle.std.proofs.Common.{◌≡◌, ◌++◌, take}
use Rattle.bosh_cck.specs.Problems.{missing_among}
use Rattle.bosh_cck.specs.Tables.{has}
use Rattle.bosh_cck.proofs.rows.add_missing_disks.Given as goal

abbrev pub invariant-loop-disk : goal.invariant-loop-disk
invariant-loop-disk l =
    l.problems.items ≡ l.fn.problems.items ++ missing_among (has l.there) l.row.inst (take l.disk-index l.row.disks)
