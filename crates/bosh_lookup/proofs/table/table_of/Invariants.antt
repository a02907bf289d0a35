use Rattle.std.proofs.Common.{take}
use Rattle.bosh_lookup.specs.Table.{IsTable}
use Rattle.bosh_lookup.proofs.table.table_of.Given as goal

abbrev pub invariant-loop-thing : goal.invariant-loop-thing
invariant-loop-thing g l = IsTable g.T.Named.name_of (take l.thing-index l.things) l.table
