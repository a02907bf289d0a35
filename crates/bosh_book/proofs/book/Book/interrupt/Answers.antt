use Rattle.bosh_book.proofs.StartLemmas.{none_ended}
use Rattle.bosh_book.specs.Starts.{open_tasks}
use Rattle.bosh_book.proofs.book.Book.interrupt.Goals as goal

pub returns-in-Err-clause-interrupts : goal.returns-in-Err-clause-interrupts
returns-in-Err-clause-interrupts g c =
    none_ended g.K.Keeper.bodies g.K.Keeper.faults (open_tasks c.args.self.now.records) c.args.self.now c.in-Err.fault
    c.in-Err.ensures.memory
