use Rattle.laws_moves.proofs.MoveLemmas.{kept_by_moves}
use Rattle.laws_moves.proofs.what_each_part_keeps_is_kept.Goals as goal

pub returns : goal.returns
returns c = kept_by_moves
