use Rattle.laws_compiling.proofs.KeyLemmas.{compilable_kept}
use Rattle.laws_compiling.proofs.keys_can_still_be_compiled.Goals as goal

pub returns : goal.returns
returns c = compilable_kept
