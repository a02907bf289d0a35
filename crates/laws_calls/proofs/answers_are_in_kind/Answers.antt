use Rattle.laws_calls.proofs.KindLemmas.{kind_kept}
use Rattle.laws_calls.proofs.answers_are_in_kind.Goals as goal

pub returns : goal.returns
returns c = kind_kept
