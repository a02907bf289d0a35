use Rattle.bosh_book.proofs.FaultLemmas.{is_whole}
use Rattle.bosh_book.proofs.book.Book.begin_task.Goals as goal

pub open-requires : goal.open-requires
open-requires g c = is_whole c.args.self.now c.in_ok-opening.ensures.runs
