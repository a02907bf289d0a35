use Rattle.std.proofs.Common.{◌≡◌}
use Rattle.cases_crowds.proofs.crowd.note_all.Given as goal

abbrev pub invariant-loop-count : goal.invariant-loop-count
invariant-loop-count g l = (l.pass.lock ≡ l.lock) × (l.pass.share ≡ l.initial.pass.share)
