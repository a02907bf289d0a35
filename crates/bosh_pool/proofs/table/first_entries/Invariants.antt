use Rattle.std.proofs.Common.{take}
use Rattle.bosh_pool.specs.Table.{FirstEntries}
use Rattle.bosh_pool.proofs.table.first_entries.Given as goal

abbrev pub invariant-loop-held : goal.invariant-loop-held
invariant-loop-held l = FirstEntries (take l.held-index l.helds) l.table
