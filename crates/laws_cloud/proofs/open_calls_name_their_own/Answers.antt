use Rattle.laws_cloud.proofs.CallLemmas.{joins_own, names_own}
use Rattle.laws_cloud.proofs.open_calls_name_their_own.Goals as goal

pub returns-clause-machines : goal.returns-clause-machines
returns-clause-machines c = λ m n call h is. names_own m h n call is

pub returns-clause-disks : goal.returns-clause-disks
returns-clause-disks c = λ m n call h is. joins_own m h n call is
