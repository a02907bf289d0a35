-- The last address of a network is one.
use Rattle.std.proofs.Common.{◌-◌, arith}
use Rattle.bosh_cloudcfg.proofs.BlockLemmas.{block_fits}
use Rattle.bosh_cloudcfg.proofs.block.last_of.Goals as goal

pub overflow_add-result : goal.overflow_add-result
overflow_add-result c =
    let fits = block_fits c.args.net.first (32 - c.args.net.bits) c.requires.first (omega arith) c.requires.is_network in
    omega (arith, fits, c.others.ensures)
