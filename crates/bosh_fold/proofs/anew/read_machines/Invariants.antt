use Rattle.std.proofs.Common.{◌≡◌, take}
use Rattle.std.specs.Prelude.{fold}
use Rattle.bosh_fold.specs.Anew.{machine_read}
use Rattle.bosh_fold.proofs.anew.read_machines.Given as goal

abbrev pub invariant-loop-row : goal.invariant-loop-row
invariant-loop-row l =
    l.machines.places.entries ≡ fold machine_read l.initial.machines.places.entries (take l.row-index l.rows)
