-- What follows of every command.
use Rattle.std.specs.Prelude.{◌≡◌, false, List, fold}
use Rattle.bosh_base.specs.declared.moves.Move.{Move}
use Rattle.bosh_base.specs.declared.reply.Reply.{Reply}
use Rattle.bosh_due.specs.Before.{Before}
use Rattle.bosh_due.specs.Ends.{EndsIn, MayMake, leaves_under_way}
use Rattle.bosh_due.specs.Outcomes.{Outcome}
use Rattle.bosh_due.specs.UnderWay.UnderWay.{idle}
use Rattle.bosh_history.specs.Moments.{later}

-- the moves behind which a reply is due are moves that the command may make
abbrev pub WhatIsDueMayBeMade : Type 0
WhatIsDueMayBeMade =
    (outcome : Outcome) (b : Before) (more : List Move) (reply : Reply) → EndsIn outcome b more reply →
    MayMake outcome b more

-- on a director that goes on nothing is under way
abbrev pub NothingIsLeft : Type 0
NothingIsLeft =
    (outcome : Outcome) (b : Before) (more : List Move) → (b.moment.halted ≡ false → b.under_way ≡ idle) →
    (fold later b.moment more).halted ≡ false → leaves_under_way outcome b more ≡ idle
