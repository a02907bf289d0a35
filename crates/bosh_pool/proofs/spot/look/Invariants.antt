use Rattle.std.proofs.Common.{◌≡◌, ◌+◌, ◌-◌, false}
use Rattle.bosh_base.specs.Plan.{is_in_some}
use Rattle.bosh_base.specs.declared.addr.Addr.{Addr}
use Rattle.bosh_pool.specs.Free.{IsReady}
use Rattle.bosh_pool.proofs.spot.look.Given as goal

-- the search may go on from the next number, which is in no band
abbrev pub invariant-loop-spot : goal.invariant-loop-spot
invariant-loop-spot l = record {
  ready : IsReady l.subnet l.bands l.used l.spot;
  clear : (addr : Addr) → addr.0 ≡ l.spot.next → is_in_some addr l.bands ≡ false;
}

abbrev pub decreases-loop-spot : goal.decreases-loop-spot
decreases-loop-spot l = (l.subnet.range.last.0 + 1) - l.spot.next
