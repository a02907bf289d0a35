use Rattle.laws_stands_noted.proofs.AgreesLemmas.{move_agrees}
use Rattle.laws_stands_noted.proofs.moves.what_is_told_agrees_after_each_permitted_move.Goals as goal

pub returns : goal.returns
returns c = move_agrees
