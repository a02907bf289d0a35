use Rattle.laws_stands_snapshots.proofs.BuiltGoOnLemmas.{none_stand}
use Rattle.laws_stands_snapshots.proofs.compiled.compiled_keys_stand_at_first.Goals as goal

pub returns : goal.returns
returns c = none_stand
