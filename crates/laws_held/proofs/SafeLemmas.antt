-- Permitted histories are safe, and records stay what the cloud has, from a fit pair on.
use Rattle.std.proofs.Common.{List, [], ◌∷◌}
use Rattle.std.proofs.lemmas.Bool.{and_from}
use Rattle.bosh_base.specs.declared.moves.Move.{Move}
use Rattle.bosh_history.specs.Addresses.{are_apart, possible_machines, shares_no_address}
use Rattle.bosh_history.specs.DiskContents.{keeps_disks}
use Rattle.bosh_history.specs.Each.{EachMove, durable_well}
use Rattle.bosh_history.specs.Fit.{IsFit}
use Rattle.bosh_history.specs.Moments.{Moment, Opening, beginning, later}
use Rattle.bosh_history.specs.Notes.{Outside}
use Rattle.bosh_history.specs.Permitted.{IsRun, IsRunFrom}
use Rattle.bosh_history.specs.Rolling.{are_within_limits}
use Rattle.bosh_history.specs.Safe.{IsSafe}
use Rattle.bosh_history.specs.Ties.{IsTied, IsTiedFrom}
use Rattle.laws_addresses.proofs.ApartLemmas.{all_apart}
use Rattle.laws_disk_contents.proofs.ContentLemmas.{contents_kept}
use Rattle.laws_held.proofs.HeldLemmas.{fit_holds}
use Rattle.laws_held.proofs.PartLemmas.{whole_moves}
use Rattle.laws_held.specs.Whole.{Whole}
use Rattle.laws_runs.proofs.RunLemmas.{compiles_run, deletions_run, phases_run, rolls_run}
use Rattle.laws_runs.proofs.SafeLemmas.{durable_each, limits_at}
use Rattle.laws_tied.proofs.TieLemmas.{tied}

-- ---- records stay tied

tied_along : (outside : Outside) (m : Moment) (moves : List Move) → IsRunFrom outside m moves → Whole m
    → IsTiedFrom m moves
tied_along outside m [] run h = tied m h.holds
tied_along outside m (move ∷ moves) run h =
    (tied m h.holds, tied_along outside (later m move) moves run.1 (whole_moves outside m move run.0 h))

pub tied_run : (outside : Outside) (o : Opening) (moves : List Move) → IsFit outside o → IsRun outside o moves
    → IsTied o moves
tied_run outside o moves fit run = tied_along outside (beginning o) moves run (fit_holds outside o fit)

-- ---- what is asked of each move

-- machines share no address
apart_along : (outside : Outside) (m : Moment) (moves : List Move) → IsRunFrom outside m moves → Whole m
    → EachMove shares_no_address m moves
apart_along outside m [] run h = tt
apart_along outside m (move ∷ moves) run h =
    let next : Whole (later m move) = whole_moves outside m move run.0 h in
    (all_apart (later m move) next.holds, apart_along outside (later m move) moves run.1 next)

-- disks keep their contents
contents_along : (outside : Outside) (m : Moment) (moves : List Move) → IsRunFrom outside m moves → Whole m
    → EachMove (durable_well keeps_disks) m moves
contents_along outside m [] run h = tt
contents_along outside m (move ∷ moves) run h = (
  durable_each outside m keeps_disks (λ e follows may. contents_kept m h.holds outside e follows may) move run.0,
  contents_along outside (later m move) moves run.1 (whole_moves outside m move run.0 h),
)

-- ---- all

pub safe_run : (outside : Outside) (o : Opening) (moves : List Move) → IsFit outside o → IsRun outside o moves
    → IsSafe o moves
safe_run outside o moves fit run =
    let start : Whole (beginning o) = fit_holds outside o fit in
    record {
      opening =
          and_from (are_apart (possible_machines (beginning o))) (are_within_limits (beginning o).known)
          (all_apart (beginning o) start.holds) (limits_at (beginning o) start.holds.known);
      deletions = deletions_run outside o moves fit run;
      addresses = apart_along outside (beginning o) moves run start;
      rolling = rolls_run outside o moves fit run;
      compile_keys = compiles_run outside o moves fit run;
      disk_contents = contents_along outside (beginning o) moves run start;
      phases = phases_run outside o moves fit run;
    }
