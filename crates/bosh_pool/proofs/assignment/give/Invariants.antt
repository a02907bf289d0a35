use Rattle.std.proofs.Common.{◌≡◌, Option, drop, map}
use Rattle.bosh_base.specs.declared.addr.Addr.{Addr}
use Rattle.bosh_pool.specs.Assignment.{given_addresses}
use Rattle.bosh_pool.specs.Free.{is_used}
use Rattle.bosh_pool.specs.Search.{AreReady}
use Rattle.bosh_pool.specs.declared.want.Want.{Want}
use Rattle.bosh_pool.proofs.AssignmentLemmas.{after}
use Rattle.bosh_pool.proofs.assignment.give.Given as goal

-- the addresses so far, and those of the other wants, are those of all wants
abbrev pub invariant-loop-i : goal.invariant-loop-i
invariant-loop-i l = record {
  ready : AreReady l.plan.subnets l.closed l.used l.spots;
  same : (find : Want → Option Addr) → l.own ≡ map find l.wants → given_addresses l.plan find (is_used l.fn.used) l.wants ≡ after l.addrs.items (given_addresses l.plan find (is_used l.used) (drop l.i l.wants));
}
