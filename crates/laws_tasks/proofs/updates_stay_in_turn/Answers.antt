use Rattle.laws_tasks.proofs.TurnLemmas.{turns_kept}
use Rattle.laws_tasks.proofs.updates_stay_in_turn.Goals as goal

pub returns : goal.returns
returns c = turns_kept
