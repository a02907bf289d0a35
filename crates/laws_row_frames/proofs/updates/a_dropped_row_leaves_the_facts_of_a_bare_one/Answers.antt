use Rattle.laws_row_frames.proofs.DroppedCases.{dropped_free, dropped_kept}
use Rattle.laws_row_frames.proofs.updates.a_dropped_row_leaves_the_facts_of_a_bare_one.Goals as goal

pub returns-clause-row : goal.returns-clause-row
returns-clause-row c = dropped_kept

pub returns-clause-disks : goal.returns-clause-disks
returns-clause-disks c = dropped_free
