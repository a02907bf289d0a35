-- Which addresses of a network are given, and how (bosh.io, "Networks": a manual network's `range`, `gateway`,
-- `reserved`, `static` and `azs`; that nobody has the two ends of a range is this project's profile).
use Rattle.std.specs.Prelude.{ℕ, Bool, false, ◌&&◌, ◌||◌, ◌==◌, not, nat_le, nat_eq, List, Option, Some, None, IsTrue}
use Rattle.std.specs.List.{list_any}
use Rattle.std.specs.Cmp.Lexicographic.{pointwise}
use Rattle.bosh_base.specs.declared.addr.Addr.{Addr}
use Rattle.bosh_base.specs.declared.addr.Band.{Band}
use Rattle.bosh_base.specs.declared.plan.Subnet.{Subnet}
use Rattle.bosh_base.specs.declared.plan.NetPlan.{NetPlan}

-- the address lies in the band, whose ends are in it
abbrev pub is_within : Addr → Band → Bool
is_within addr band = nat_le band.first.0 addr.0 && nat_le addr.0 band.last.0

-- it lies in one of the bands
abbrev pub is_in_some : Addr → List Band → Bool
is_in_some addr bands = list_any (λ band. is_within addr band) bands

-- it is the gateway, where there is one
abbrev pub is_gateway : Addr → Option Addr → Bool
is_gateway addr None = false
is_gateway addr (Some gateway) = gateway.0 == addr.0

-- nobody has it: it is in a reserved band, or is the first or the last of the range or the gateway
abbrev pub is_reserved : Subnet → Addr → Bool
is_reserved subnet addr =
    is_in_some addr subnet.reserved
    || (addr.0 == subnet.range.first.0 || (addr.0 == subnet.range.last.0 || is_gateway addr subnet.gateway))

-- the name is one of the list
abbrev pub is_listed : List ℕ → List (List ℕ) → Bool
is_listed name names = list_any (λ listed. pointwise nat_eq listed name) names

-- the subnet is one of the network, lies in the availability zone, and has the address in its range
abbrev pub has_address : Subnet → List ℕ → List ℕ → Addr → Bool
has_address subnet net az addr =
    pointwise nat_eq subnet.net net && (is_listed az subnet.azs && is_within addr subnet.range)

-- and it gives the address to those alone that ask for it by number: not reserved, and in a fixed band
abbrev pub has_static : Subnet → List ℕ → List ℕ → Addr → Bool
has_static subnet net az addr =
    has_address subnet net az addr && (not (is_reserved subnet addr) && is_in_some addr subnet.fixed)

-- or to whoever asks for any: neither reserved nor in a fixed band
abbrev pub has_dynamic : Subnet → List ℕ → List ℕ → Addr → Bool
has_dynamic subnet net az addr =
    has_address subnet net az addr && (not (is_reserved subnet addr) && not (is_in_some addr subnet.fixed))

-- some subnet has the address for the network and the availability zone
abbrev pub is_of : NetPlan → List ℕ → List ℕ → Addr → Bool
is_of plan net az addr = list_any (λ subnet. has_address subnet net az addr) plan.subnets

-- some subnet gives it to those alone that ask for it by number
abbrev pub is_static : NetPlan → List ℕ → List ℕ → Addr → Bool
is_static plan net az addr = list_any (λ subnet. has_static subnet net az addr) plan.subnets

-- some subnet gives it to whoever asks for any
abbrev pub is_dynamic : NetPlan → List ℕ → List ℕ → Addr → Bool
is_dynamic plan net az addr = list_any (λ subnet. has_dynamic subnet net az addr) plan.subnets

abbrev pub IsOf : NetPlan → List ℕ → List ℕ → Addr → Type 0
IsOf plan net az addr = IsTrue (is_of plan net az addr)

abbrev pub IsStatic : NetPlan → List ℕ → List ℕ → Addr → Type 0
IsStatic plan net az addr = IsTrue (is_static plan net az addr)

abbrev pub IsDynamic : NetPlan → List ℕ → List ℕ → Addr → Type 0
IsDynamic plan net az addr = IsTrue (is_dynamic plan net az addr)
