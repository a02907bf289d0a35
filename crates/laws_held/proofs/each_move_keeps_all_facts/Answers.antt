use Rattle.laws_held.proofs.PartLemmas.{whole_kept, whole_moves}
use Rattle.laws_held.proofs.each_move_keeps_all_facts.Goals as goal

pub returns-clause-parts : goal.returns-clause-parts
returns-clause-parts c = whole_kept

pub returns-clause-moves : goal.returns-clause-moves
returns-clause-moves c = whole_moves
