use Rattle.bosh_sound.proofs.OrderLemmas.{Rise}
use Rattle.bosh_sound.specs.Places.{texts_of}
use Rattle.bosh_sound.proofs.names.are_in_order.Given as goal

-- the names so far rise
abbrev pub invariant-loop-place : goal.invariant-loop-place
invariant-loop-place l = Rise (texts_of l.names) l.place
