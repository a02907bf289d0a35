use Rattle.bosh_release_files.proofs.TakingLemmas.{IsFar}
use Rattle.bosh_release_files.proofs.taking.reached.Given as goal

-- how far the places so far reach, and which of them are reached
abbrev pub invariant-loop-place : goal.invariant-loop-place
invariant-loop-place l = IsFar l.reach l.place l.far l.reached.items
