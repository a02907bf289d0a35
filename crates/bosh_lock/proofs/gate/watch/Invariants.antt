use Rattle.std.proofs.Common.{◌≡◌}
use Rattle.bosh_lock.specs.Steps.{Sees}
use Rattle.bosh_lock.proofs.gate.watch.Given as goal

abbrev pub invariant-loop : goal.invariant-loop
invariant-loop g l = (l.seat.table_id ≡ l.initial.seat.table_id) × Sees l.initial.seat.me l.seat.me
