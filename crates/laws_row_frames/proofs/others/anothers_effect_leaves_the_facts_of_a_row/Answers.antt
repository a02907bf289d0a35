use Rattle.laws_row_frames.proofs.OtherCases.{other_kept}
use Rattle.laws_row_frames.proofs.others.anothers_effect_leaves_the_facts_of_a_row.Goals as goal

pub returns : goal.returns
returns c = other_kept
