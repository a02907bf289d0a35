use Rattle.laws_stands_snapshots.proofs.BuiltOrderLemmas.{built_read}
use Rattle.laws_stands_snapshots.proofs.anew.compiled_keys_read_anew_stand.Goals as goal

pub returns : goal.returns
returns c = built_read
