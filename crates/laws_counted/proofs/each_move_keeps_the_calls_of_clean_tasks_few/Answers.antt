use Rattle.laws_counted.proofs.HistoryLemmas.{counted_move}
use Rattle.laws_counted.proofs.each_move_keeps_the_calls_of_clean_tasks_few.Goals as goal

pub returns : goal.returns
returns c = counted_move
