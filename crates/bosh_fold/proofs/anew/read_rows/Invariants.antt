use Rattle.std.proofs.Common.{◌≡◌, take}
use Rattle.std.specs.Prelude.{fold}
use Rattle.bosh_fold.specs.Anew.{row_read}
use Rattle.bosh_fold.proofs.anew.read_rows.Given as goal

abbrev pub invariant-loop-row : goal.invariant-loop-row
invariant-loop-row l =
    l.instances.by_inst.entries ≡ fold row_read l.initial.instances.by_inst.entries (take l.row-index l.rows)
