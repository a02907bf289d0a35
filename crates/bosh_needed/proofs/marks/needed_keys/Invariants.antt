use Rattle.bosh_needed.specs.Marks.{AreMarked}
use Rattle.bosh_needed.proofs.marks.needed_keys.Given as goal

abbrev pub invariant-loop-place : goal.invariant-loop-place
invariant-loop-place l = AreMarked l.works l.asked l.marks l.place
