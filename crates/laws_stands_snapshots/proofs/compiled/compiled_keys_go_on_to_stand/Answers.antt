use Rattle.laws_stands_snapshots.proofs.BuiltGoOnLemmas.{built_goes_on}
use Rattle.laws_stands_snapshots.proofs.compiled.compiled_keys_go_on_to_stand.Goals as goal

pub returns : goal.returns
returns c = built_goes_on
