use Rattle.std.proofs.Common.{subst, sym}
use Rattle.bosh_pool.specs.Closed.{IsClosed}
use Rattle.bosh_pool.specs.declared.closed.Closed.{Closed}
use Rattle.bosh_pool.proofs.ClosedLemmas.{closed_at}
use Rattle.bosh_pool.proofs.closed.is_lent.Goals as goal

pub lends-requires : goal.lends-requires
lends-requires c =
    let subnet = c.index-subnets-i.result in
    subst (λ (k : Closed). IsClosed subnet k) (sym c.index-closed-i.is)
    (closed_at c.args.subnets.now c.args.closed.now c.loop-i.i subnet c.index-closed-i.result c.requires c.loop-i-test.true c.index-subnets-i.is)
