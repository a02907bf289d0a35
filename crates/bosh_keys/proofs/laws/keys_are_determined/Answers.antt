use Rattle.bosh_keys.proofs.DeterminedLemmas.{one_answer}
use Rattle.bosh_keys.proofs.laws.keys_are_determined.Goals as goal

pub returns : goal.returns
returns c = λ groups compiled one other sound alike. one_answer groups sound alike compiled one other
