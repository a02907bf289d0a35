use Rattle.bosh_book.proofs.TurnLemmas.{AreTaken}
use Rattle.bosh_book.specs.Running.{room_left}
use Rattle.bosh_book.proofs.book.Book.claim_next.Given as goal

abbrev pub invariant-loop-self : goal.invariant-loop-self
invariant-loop-self g l =
    AreTaken g.K.Keeper.bodies g.K.Keeper.faults l.task l.worker l.initial.self l.self

-- there is room for fewer entries
abbrev pub decreases-loop-self : goal.decreases-loop-self
decreases-loop-self g l = room_left l.self
