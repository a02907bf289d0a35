use Rattle.std.proofs.Common.{◌≡◌}
use Rattle.bosh_records.specs.Table.{next_after}
use Rattle.bosh_records.proofs.table.Table+u64+V.next_after.Given as goal

abbrev pub invariant-loop-number : goal.invariant-loop-number
invariant-loop-number g l = next_after l.number-iterator l.last ≡ next_after l.self.places.entries l.last
