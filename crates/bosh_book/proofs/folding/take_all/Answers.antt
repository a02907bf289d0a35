use Rattle.bosh_book.proofs.FoldsLemmas.{read_if, stopped_if}
use Rattle.bosh_book.proofs.folding.take_all.Goals as goal

pub returns-clause-read : goal.returns-clause-read
returns-clause-read c =
    read_if c.args.records.now c.fold.new.records c.args.entries.now c.in_ok-taken.taken c.check.result c.requires
    c.in_ok-taken.ensures.taken c.check.ensures.all c.check.ensures.sound

pub returns-clause-fault : goal.returns-clause-fault
returns-clause-fault c =
    stopped_if c.args.records.now c.fold.new.records c.args.entries.now c.in_ok-taken.taken c.check.result c.requires
    c.in_ok-taken.ensures.taken c.check.ensures.fault
