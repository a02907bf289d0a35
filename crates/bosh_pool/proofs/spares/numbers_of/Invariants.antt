use Rattle.std.proofs.Common.{◌≡◌, take}
use Rattle.std.specs.List.{list_any}
use Rattle.bosh_base.specs.declared.addr.Addr.{Addr}
use Rattle.bosh_pool.specs.Fixed.{same_addr}
use Rattle.bosh_pool.specs.Free.{is_used}
use Rattle.bosh_pool.proofs.spares.numbers_of.Given as goal

abbrev pub invariant-loop-addr : goal.invariant-loop-addr
invariant-loop-addr l = (addr : Addr) → is_used l.used addr ≡ list_any (same_addr addr) (take l.addr-index l.addrs)
