use Rattle.laws_goals.proofs.LeftLemmas.{can-be-compiled}
use Rattle.laws_goals.proofs.compiling.keys_in_order_can_be_compiled.Goals as goal

pub returns : goal.returns
returns c = can-be-compiled
