-- What is read is what was spelled.
use Rattle.std.proofs.Common.{refl}
use Rattle.bosh_base.specs.declared.addr.Addr.{Addr}
use Rattle.bosh_base.specs.declared.addr.NetAddr.{NetAddr}
use Rattle.bosh_entry.specs.Addr.{addr, is_addr, addr_at, net_addr, is_net_addr, net_addr_at}
use Rattle.bosh_entry.proofs.CodingLemmas.{IsCoding, making_law, struct_law, ◌and◌}
use Rattle.bosh_entry.proofs.NumberLemmas.{small_law}
use Rattle.bosh_entry.proofs.PlainLemmas.{name_law}

pub addr_law : IsCoding addr is_addr addr_at
unfolding addr is_addr addr_at
addr_law = struct_law (λ (a : Addr). (tt, a.0)) (λ p. refl) (λ x. refl) (making_law (λ number. record { 0 = number }) and small_law)

pub net_addr_law : IsCoding net_addr is_net_addr net_addr_at
unfolding net_addr is_net_addr net_addr_at
net_addr_law = struct_law (λ (n : NetAddr). ((tt, n.net), n.addr)) (λ p. refl) (λ x. refl) (making_law (λ net addr. record { net = net; addr = addr }) and name_law and addr_law)
