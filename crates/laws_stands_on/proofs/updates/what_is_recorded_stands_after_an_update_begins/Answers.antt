use Rattle.laws_stands_on.proofs.UpdateBegunLemmas.{after_begun}
use Rattle.laws_stands_on.proofs.updates.what_is_recorded_stands_after_an_update_begins.Goals as goal

pub returns : goal.returns
returns c = λ told it update allows stands. after_begun update told it allows stands
