-- On a director that goes on nothing is under way.
use Rattle.std.proofs.Common.{◌≡◌, ap}
use Rattle.std.specs.Prelude.{false, List, [], ◌∷◌, fold, if◌then◌else◌}
use Rattle.bosh_base.specs.declared.moves.Move.{Move}
use Rattle.bosh_due.specs.Before.{Before, left_under_way}
use Rattle.bosh_due.specs.UnderWay.{UnderWay}
use Rattle.bosh_due.specs.UnderWay.UnderWay.{idle}
use Rattle.bosh_history.specs.Moments.{later}

pub nothing_left : (b : Before) (what : UnderWay) (more : List Move) →
    (b.moment.halted ≡ false → b.under_way ≡ idle) → (fold later b.moment more).halted ≡ false →
    left_under_way b what more ≡ idle
nothing_left b what [] before going_on = before going_on
nothing_left b what (move ∷ more) before going_on = ap (λ halted. if halted then what else idle) going_on
