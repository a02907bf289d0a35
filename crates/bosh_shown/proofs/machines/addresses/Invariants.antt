use Rattle.std.proofs.Common.{◌≡◌, map, take}
use Rattle.bosh_base.specs.declared.addr.NetAddr as net
use Rattle.bosh_shown.proofs.machines.addresses.Given as goal

-- those so far
abbrev pub invariant-loop-net : goal.invariant-loop-net
invariant-loop-net l = l.addrs.items ≡ map (λ (it : net.NetAddr). it.addr) (take l.net-index l.nets)
