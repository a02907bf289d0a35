use Rattle.laws_machines.proofs.AloneLemmas.{slots_alone}
use Rattle.laws_machines.proofs.DeletedLemmas.{deleted_kept}
use Rattle.laws_machines.proofs.compile_machines_have_their_keys.Goals as goal

pub returns-clause-alone : goal.returns-clause-alone
returns-clause-alone c = slots_alone

pub returns-clause-compiled : goal.returns-clause-compiled
returns-clause-compiled c = deleted_kept
