use Rattle.laws_machines.proofs.OnceLemmas.{alone_kept, new_kept}
use Rattle.laws_machines.proofs.keys_are_compiled_once.Goals as goal

pub returns-clause-new : goal.returns-clause-new
returns-clause-new c = new_kept

pub returns-clause-alone : goal.returns-clause-alone
returns-clause-alone c = alone_kept
