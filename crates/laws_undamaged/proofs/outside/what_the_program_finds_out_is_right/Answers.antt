use Rattle.laws_undamaged.proofs.ShippedLemmas.{shipped_tells_rightly}
use Rattle.laws_undamaged.proofs.outside.what_the_program_finds_out_is_right.Goals as goal

pub returns : goal.returns
returns c = shipped_tells_rightly
