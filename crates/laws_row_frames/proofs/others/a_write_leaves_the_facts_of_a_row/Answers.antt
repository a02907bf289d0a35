use Rattle.laws_row_frames.proofs.OtherCases.{write_kept}
use Rattle.laws_row_frames.proofs.others.a_write_leaves_the_facts_of_a_row.Goals as goal

pub returns : goal.returns
returns c = write_kept
