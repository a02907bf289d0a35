use Rattle.std.proofs.Common.{take}
use Rattle.bosh_pool.specs.Search.{AreReady, Finds, is_free_in}
use Rattle.bosh_pool.proofs.search.least_free.Given as goal

-- the best so far is the least over the subnets so far
abbrev pub invariant-loop-i : goal.invariant-loop-i
invariant-loop-i l = record {
  ready : AreReady l.subnets l.closed l.used l.spots;
  best : Finds (is_free_in l.net l.az l.used (take l.i l.subnets)) l.best;
}
