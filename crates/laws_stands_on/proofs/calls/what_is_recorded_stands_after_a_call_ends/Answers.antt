use Rattle.laws_stands_on.proofs.EndedLemmas.{after_end}
use Rattle.laws_stands_on.proofs.calls.what_is_recorded_stands_after_a_call_ends.Goals as goal

pub returns : goal.returns
returns c = after_end
