use Rattle.laws_snapshots.proofs.MomentLemmas.{run_older, run_snapshot}
use Rattle.laws_snapshots.proofs.snapshots.snapshots_of_what_is_known_are_sound.Goals as goal

pub returns-clause-now : goal.returns-clause-now
returns-clause-now c = run_snapshot

pub returns-clause-older : goal.returns-clause-older
returns-clause-older c = run_older
