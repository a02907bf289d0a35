use Rattle.std.proofs.Common.{take}
use Rattle.bosh_pool.specs.Table.{AllHolders}
use Rattle.bosh_pool.proofs.holders.all_holders.Given as goal

abbrev pub invariant-loop-held : goal.invariant-loop-held
invariant-loop-held l = AllHolders (take l.held-index l.helds) l.table
