use Rattle.laws_held.proofs.HeldLemmas.{left_holds}
use Rattle.laws_held.proofs.what_a_session_leaves_has_all_facts.Goals as goal

pub returns : goal.returns
returns c = left_holds
