use Rattle.std.proofs.Common.{◌≡◌, ◌+◌, ◌-◌, length, drop}
use Rattle.bosh_base.specs.declared.addr.Addr.{Addr}
use Rattle.bosh_bands.proofs.CommonLemmas.{common}
use Rattle.bosh_bands.proofs.common.first_common.Given as goal

-- the bands that were passed over have no address that the other list has
abbrev pub invariant-loop-i : goal.invariant-loop-i
invariant-loop-i l = (addr : Addr) → common l.first l.second addr ≡ common (drop l.i l.first) (drop l.j l.second) addr

-- the bands that are left
abbrev pub decreases-loop-i : goal.decreases-loop-i
decreases-loop-i l = (length l.first - l.i) + (length l.second - l.j)
