use Rattle.std.proofs.Common.{◌≡◌, take}
use Rattle.std.specs.Prelude.{fold}
use Rattle.bosh_fold.specs.Tasks.{sweep_cleared}
use Rattle.bosh_fold.proofs.closing.clear_machines.Given as goal

abbrev pub invariant-loop-name : goal.invariant-loop-name
invariant-loop-name l = l.machines.places.entries ≡ fold sweep_cleared l.initial.machines.places.entries (take l.name-index l.items)
