use Rattle.std.proofs.Common.{take}
use Rattle.bosh_pool.specs.Table.{AreByNetwork}
use Rattle.bosh_pool.proofs.networks.by_network.Given as goal

abbrev pub invariant-loop-held : goal.invariant-loop-held
invariant-loop-held l = AreByNetwork (take l.held-index l.helds) l.table
