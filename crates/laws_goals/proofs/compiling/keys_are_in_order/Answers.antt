use Rattle.laws_goals.proofs.KeyLemmas.{has-needed-keys, has-sound-keys}
use Rattle.laws_goals.proofs.compiling.keys_are_in_order.Goals as goal

pub returns : goal.returns
returns c = record { sound = has-sound-keys; needed = has-needed-keys }
