use Rattle.laws_row_frames.proofs.DroppedCases.{left_free}
use Rattle.laws_row_frames.proofs.UpdateCases.{updated_kept}
use Rattle.laws_row_frames.proofs.updates.a_done_update_keeps_the_facts_of_a_row.Goals as goal

pub returns-clause-row : goal.returns-clause-row
returns-clause-row c = updated_kept

pub returns-clause-disks : goal.returns-clause-disks
returns-clause-disks c = left_free
