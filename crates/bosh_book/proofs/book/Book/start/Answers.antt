use Rattle.bosh_book.proofs.StartLemmas.{recorded_since, started_running}
use Rattle.bosh_book.proofs.book.Book.start.Goals as goal

pub returns-then-is_ok-clause-starts : goal.returns-then-is_ok-clause-starts
returns-then-is_ok-clause-starts g c =
    started_running g.K.Keeper.bodies g.K.Keeper.faults c.args.compacts c.args.self.now c.take_in-taken.new.self
    c.finish-started.new.self c.take_in-taken.result c.finish-started.result c.take_in-taken.ensures.takes
    c.finish-started.ensures.finishes c.finish-started.ensures.comes_out c.finish-started.ensures.taken

pub returns-then-is_ok-clause-recorded : goal.returns-then-is_ok-clause-recorded
returns-then-is_ok-clause-recorded g c =
    recorded_since g.K.Keeper.bodies g.K.Keeper.faults c.args.self.now.journal.entries c.take_in-taken.new.self
    c.finish-started.new.self c.take_in-taken.result c.finish-started.result c.take_in-taken.ensures.recorded
    c.finish-started.ensures.taken c.finish-started.ensures.finishes
