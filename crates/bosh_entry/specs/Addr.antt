-- How addresses are spelled.
use Rattle.std.specs.Prelude.{ℕ, Bool, List, ◌&&◌, ◌++◌}
use Rattle.bosh_base.specs.Name.{is_name}
use Rattle.bosh_base.specs.declared.addr.Addr.{Addr}
use Rattle.bosh_base.specs.declared.addr.NetAddr.{NetAddr}
use Rattle.bosh_entry.specs.Reading.{Reader, making, ◌with◌}
use Rattle.bosh_entry.specs.Number.{number, small_at, is_small}
use Rattle.bosh_entry.specs.List.{text}
use Rattle.bosh_entry.specs.Plain.{name_at}

-- an address, as a number
unfoldable pub addr : Addr → List ℕ
addr a = number a.0

unfoldable pub is_addr : Addr → Bool
is_addr a = is_small a.0

unfoldable pub addr_at : Reader Addr
addr_at = making (λ number. record { 0 = number }) with small_at

-- an address on a network
unfoldable pub net_addr : NetAddr → List ℕ
net_addr n = text n.net ++ addr n.addr

unfoldable pub is_net_addr : NetAddr → Bool
is_net_addr n = is_name n.net && is_addr n.addr

unfoldable pub net_addr_at : Reader NetAddr
net_addr_at = making (λ net addr. record { net = net; addr = addr }) with name_at with addr_at
