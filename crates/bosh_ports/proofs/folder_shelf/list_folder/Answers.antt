use Rattle.bosh_ports.proofs.ShelfLemmas.{listing-below}
use Rattle.bosh_ports.proofs.folder_shelf.list_folder.Goals as goal

pub returns : goal.returns
returns g c =
    listing-below c.args.folder.now _ c.paths_below.result c.paths_below.ensures.ordered c.in_ok-found.ensures c.paths_below.ensures.answer
