use Rattle.laws_clean.proofs.CourseLemmas.{unfailed_course}
use Rattle.laws_clean.proofs.each_move_keeps_clean_tasks_unfailed.Goals as goal

pub returns : goal.returns
returns c = unfailed_course
