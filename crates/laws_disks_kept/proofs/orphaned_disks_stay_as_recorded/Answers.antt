use Rattle.laws_disks_kept.proofs.OrphanParts.{answered_kept, fitting_kept, orphans_kept}
use Rattle.laws_disks_kept.proofs.orphaned_disks_stay_as_recorded.Goals as goal

pub returns-clause-recorded : goal.returns-clause-recorded
returns-clause-recorded c = orphans_kept

pub returns-clause-answered : goal.returns-clause-answered
returns-clause-answered c = answered_kept

pub returns-clause-fitting : goal.returns-clause-fitting
returns-clause-fitting c = fitting_kept
