use Rattle.bosh_ports.proofs.Pieces.{split_at}
use Rattle.bosh_ports.proofs.mem_source.MemSourceSource.take.Goals as goal

pub returns-clause-moved : goal.returns-clause-moved
returns-clause-moved c =
    rw (← c.self.view_is, c.fill.ensures, c.rest-left.ensures, c.deref.ensures.value)
    (split_at c.self.inside.given c.share-count.result c.self.inside.bytes.items)
