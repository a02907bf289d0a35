use Rattle.laws_snapshots.proofs.BuiltLemmas.{run_built}
use Rattle.laws_snapshots.proofs.snapshots.compiled_keys_stand_in_order.Goals as goal

pub returns : goal.returns
returns c = run_built
