use Rattle.laws_stands_slots.proofs.KeyBuiltLemmas.{key_built}
use Rattle.laws_stands_slots.proofs.keys.what_is_recorded_stands_once_a_key_is_compiled.Goals as goal

pub returns : goal.returns
returns c = key_built
