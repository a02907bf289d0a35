use Rattle.bosh_compile.proofs.PassLemmas.{IsPendingSoFar}
use Rattle.bosh_compile.proofs.level.pending_keys.Given as goal

-- the works so far are seen
abbrev pub invariant-loop-place : goal.invariant-loop-place
invariant-loop-place l = IsPendingSoFar l.nodes l.progress l.round l.place l.pending.items
