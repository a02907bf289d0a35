use Rattle.laws_row_frames.proofs.LostCases.{loss_kept}
use Rattle.laws_row_frames.proofs.losses.a_loss_leaves_the_facts_of_a_row.Goals as goal

pub returns : goal.returns
returns c = loss_kept
