-- An entry is added under its instance and network.
use Rattle.bosh_pool.proofs.TableLemmas.{entries_of-put}
use Rattle.bosh_pool.proofs.networks.add.Goals as goal

pub returns-in_ok-insert-in-Instance : goal.returns-in_ok-insert-in-Instance
returns-in_ok-insert-in-Instance c =
    entries_of-put c.args.held.now c.in-Instance.inst c.args.table.now c.remove.new.self c.insert.new.self c.remove.result c.in_ok-entries-in-Instance.entries
    c.in-Instance.is c.remove.ensures.value c.in_ok-entries-in-Instance.ensures c.remove.ensures.updates c.in_ok-insert-in-Instance.ensures.updates
