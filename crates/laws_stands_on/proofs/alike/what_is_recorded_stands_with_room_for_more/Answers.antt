use Rattle.laws_stands_on.proofs.AlikeLemmas.{alike_stands}
use Rattle.laws_stands_on.proofs.alike.what_is_recorded_stands_with_room_for_more.Goals as goal

pub returns : goal.returns
returns c = λ told was now ordered alike stands. alike_stands told was now ordered alike stands
