-- At each moment of a permitted history a snapshot of what is known is sound, in both formats.
use Rattle.std.proofs.Common.{◌≡◌, ◌∙◌, true, List}
use Rattle.bosh_base.specs.declared.moves.Move.{Move}
use Rattle.bosh_history.specs.Fit.{IsFit, plain}
use Rattle.bosh_history.specs.Moments.{Moment, Opening, moment}
use Rattle.bosh_history.specs.Notes.{Outside}
use Rattle.bosh_history.specs.Permitted.{IsRun}
use Rattle.bosh_history.specs.Snapshots.{snapshot_of}
use Rattle.bosh_rows.specs.SoundSnapshot.{is_sound_snapshot}
use Rattle.laws_held.proofs.HeldLemmas.{run_holds}
use Rattle.laws_held.specs.Whole.{Whole}
use Rattle.laws_stands_snapshots.specs.Built.{AreBuiltInOrder}
use Rattle.laws_snapshots.proofs.BuiltLemmas.{run_built, tested_apart, tested_order}
use Rattle.laws_snapshots.proofs.SnapshotLemmas.{plain_sound, snapshot_sound}

pub run_snapshot : (outside : Outside) (o : Opening) (moves : List Move) → IsFit outside o → IsRun outside o moves
    → is_sound_snapshot (snapshot_of (moment o moves).known) ≡ true
run_snapshot outside o moves fit run =
    snapshot_sound m whole.holds.known (λ i. (whole.holds.rows i).sound_disks) (tested_order m.known.built in_order)
    (tested_apart m.known.built in_order)
  where
    m : Moment
    m = moment o moves

    whole : Whole m
    whole = run_holds outside o moves fit run

    in_order : AreBuiltInOrder m.known.built
    in_order = run_built outside o moves fit run

pub run_older : (outside : Outside) (o : Opening) (moves : List Move) → IsFit outside o → IsRun outside o moves
    → is_sound_snapshot (plain (snapshot_of (moment o moves).known)) ≡ true
run_older outside o moves fit run =
    plain_sound (snapshot_of (moment o moves).known) ∙ run_snapshot outside o moves fit run
