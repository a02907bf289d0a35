use Rattle.std.proofs.Common.{◌≡◌}
use Rattle.std.specs.List.{list_all}
use Rattle.bosh_records.specs.Table.{things}
use Rattle.bosh_claim.specs.Opening.{keeps}
use Rattle.bosh_claim.proofs.opening.withdraws_nothing.Given as goal

abbrev pub invariant-loop-row : goal.invariant-loop-row
invariant-loop-row l =
    list_all (keeps l.goal) (things l.row-iterator)
    ≡ list_all (keeps l.goal) (things l.records.deployments.places.entries)
