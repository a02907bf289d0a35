use Rattle.laws_outcomes_kept.proofs.DiskLemmas.{disks_kept}
use Rattle.laws_outcomes_kept.proofs.listed_disks_stay_to_delete.Goals as goal

pub returns : goal.returns
returns c = disks_kept
