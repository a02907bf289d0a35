-- One more move, and histories that are cut short or go on.
use Rattle.std.proofs.Common.{◌≡◌, List, [], ◌∷◌, ◌++◌}
use Rattle.std.specs.Prelude.{fold}
use Rattle.std.proofs.lemmas.List.Sums.{fold-append}
use Rattle.bosh_base.specs.declared.moves.Move.{Move}
use Rattle.bosh_history.specs.Moments.{Opening, Moment, beginning, later, moment}
use Rattle.bosh_history.specs.Notes.{Outside}
use Rattle.bosh_history.specs.Permitted.{IsRunFrom, IsRun}

pub moment_of_last : (o : Opening) (moves : List Move) (move : Move)
    → moment o (moves ++ move ∷ []) ≡ later (moment o moves) move
moment_of_last o moves move = fold-append later (beginning o) moves (move ∷ [])

-- a front of a run is a run
run_front : (outside : Outside) (m : Moment) (moves more : List Move)
    → IsRunFrom outside m (moves ++ more) → IsRunFrom outside m moves
run_front outside m [] more run = tt
run_front outside m (move ∷ moves) more run = (run.0, run_front outside (later m move) moves more run.1, run.2)

pub front_of_run : (outside : Outside) (o : Opening) (moves more : List Move)
    → IsRun outside o (moves ++ more) → IsRun outside o moves
front_of_run outside o moves more run = run_front outside (beginning o) moves more run

-- what comes after a front of a run is one from there on
run_rest : (outside : Outside) (m : Moment) (moves more : List Move)
    → IsRunFrom outside m (moves ++ more) → IsRunFrom outside (fold later m moves) more
run_rest outside m [] more run = run
run_rest outside m (move ∷ moves) more run = run_rest outside (later m move) moves more run.1

pub rest_of_run : (outside : Outside) (o : Opening) (moves more : List Move)
    → IsRun outside o (moves ++ more) → IsRunFrom outside (moment o moves) more
rest_of_run outside o moves more run = run_rest outside (beginning o) moves more run

-- a run after a run
run_append : (outside : Outside) (m : Moment) (moves more : List Move)
    → IsRunFrom outside m moves → IsRunFrom outside (fold later m moves) more → IsRunFrom outside m (moves ++ more)
run_append outside m [] more run rest = rest
run_append outside m (move ∷ moves) more run rest =
    (run.0, run_append outside (later m move) moves more run.1 rest, run.2)

pub run_goes_on : (outside : Outside) (o : Opening) (moves more : List Move)
    → IsRun outside o moves → IsRunFrom outside (moment o moves) more → IsRun outside o (moves ++ more)
run_goes_on outside o moves more run rest = run_append outside (beginning o) moves more run rest
