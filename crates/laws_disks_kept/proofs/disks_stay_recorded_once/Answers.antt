use Rattle.laws_disks_kept.proofs.OnceParts.{answered_kept, once_kept}
use Rattle.laws_disks_kept.proofs.disks_stay_recorded_once.Goals as goal

pub returns-clause-once : goal.returns-clause-once
returns-clause-once c = once_kept

pub returns-clause-answered : goal.returns-clause-answered
returns-clause-answered c = answered_kept
