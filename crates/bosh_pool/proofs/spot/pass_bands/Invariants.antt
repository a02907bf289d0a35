use Rattle.std.proofs.Common.{◌≡◌, ◌<◌, ◌≤◌, ◌^◌, ◌-◌, true, length}
use Rattle.bosh_base.specs.Plan.{is_in_some}
use Rattle.bosh_base.specs.declared.addr.Addr.{Addr}
use Rattle.bosh_pool.specs.Free.{ArePassed}
use Rattle.bosh_pool.proofs.spot.pass_bands.Given as goal

-- the numbers that were passed over are in bands
abbrev pub invariant-loop-spot : goal.invariant-loop-spot
invariant-loop-spot l = record {
  later : l.fn.from.next ≤ l.spot.next;
  within : l.spot.next ≤ 2 ^ 32;
  room : l.spot.passed ≤ length l.bands;
  passed : ArePassed l.bands l.spot;
  closed : (addr : Addr) → l.fn.from.next ≤ addr.0 → addr.0 < l.spot.next → is_in_some addr l.bands ≡ true;
}

abbrev pub decreases-loop-spot : goal.decreases-loop-spot
decreases-loop-spot l = length l.bands - l.spot.passed
