use Rattle.std.proofs.Common.{◌≡◌}
use Rattle.std.specs.List.{list_any}
use Rattle.bosh_records.specs.Table.{things}
use Rattle.bosh_claim.specs.Ending.{is_of}
use Rattle.bosh_claim.proofs.ending.has_machine_of.Given as goal

abbrev pub invariant-loop-machine : goal.invariant-loop-machine
invariant-loop-machine l =
    list_any (is_of l.dep) (things l.machine-iterator)
    ≡ list_any (is_of l.dep) (things l.records.machines.places.entries)
