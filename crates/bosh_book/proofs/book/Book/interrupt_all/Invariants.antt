use Rattle.std.proofs.Common.{◌≡◌, false, map, take}
use Rattle.bosh_book.specs.Adds.{Adds}
use Rattle.bosh_book.specs.Starts.{interruption}
use Rattle.bosh_book.proofs.book.Book.interrupt_all.Given as goal

-- those so far are ended
abbrev pub invariant-loop-task : goal.invariant-loop-task
invariant-loop-task g l =
    Adds g.K.Keeper.bodies g.K.Keeper.faults l.initial.self (map interruption (take l.task-index l.tasks)) l.self
    × (l.self.journal.is_broken ≡ false)
