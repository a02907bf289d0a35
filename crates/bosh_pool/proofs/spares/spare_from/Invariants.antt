use Rattle.std.proofs.Common.{◌≡◌, ◌-◌, ◌++◌}
use Rattle.bosh_pool.specs.Free.{is_used}
use Rattle.bosh_pool.specs.Search.{AreReady}
use Rattle.bosh_pool.specs.Spare.{spares}
use Rattle.bosh_pool.proofs.spares.spare_from.Given as goal

-- the addresses so far, and those that are still found, are all of them
abbrev pub invariant-loop : goal.invariant-loop
invariant-loop l = record {
  ready : AreReady l.plan.subnets l.closed l.used l.spots;
  same :
      spares l.plan l.net l.az l.fn.most (is_used l.fn.used)
      ≡ l.addrs.items ++ spares l.plan l.net l.az (l.fn.most - l.counter) (is_used l.used);
}
