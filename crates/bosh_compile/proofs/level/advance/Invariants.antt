use Rattle.bosh_compile.proofs.PassLemmas.{AdvanceSoFar}
use Rattle.bosh_compile.proofs.level.advance.Given as goal

-- the works so far went on, and the others are as they were
abbrev pub invariant-loop-place : goal.invariant-loop-place
invariant-loop-place l = AdvanceSoFar l.round l.nodes l.pending l.place l.initial.progress l.progress
