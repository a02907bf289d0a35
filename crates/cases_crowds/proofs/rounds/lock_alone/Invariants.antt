use Rattle.std.proofs.Common.{◌≡◌}
use Rattle.cases_crowds.proofs.rounds.lock_alone.Given as goal

abbrev pub invariant-loop : goal.invariant-loop
invariant-loop g l = (l.pass.lock ≡ l.lock) × (l.pass.share ≡ l.initial.pass.share)
