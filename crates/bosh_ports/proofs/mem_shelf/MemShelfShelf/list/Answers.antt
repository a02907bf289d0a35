use Rattle.bosh_ports.proofs.ShelfLemmas.{paths-files_of, listing-below}
use Rattle.bosh_ports.proofs.mem_shelf.MemShelfShelf.list.Goals as goal

pub returns-clause-answer : goal.returns-clause-answer
returns-clause-answer c =
    rw (← c.self.view_is, paths-files_of c.self.inside.files.entries) c.paths_below.ensures.answer

pub returns-clause-listing : goal.returns-clause-listing
returns-clause-listing c =
    listing-below c.args.folder.now _ c.paths_below.result c.paths_below.ensures.ordered c.self.invariant c.paths_below.ensures.answer
