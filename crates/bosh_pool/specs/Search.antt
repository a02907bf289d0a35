-- A search for the least address over subnets.
use Rattle.std.specs.Prelude.{◌≡◌, ℕ, ◌<◌, ◌^◌, Bool, ◌&&◌, nat_le, not, List, Option, Some, None, length, slice_index_or, if◌then◌else◌}
use Rattle.std.specs.BTreeSet.{BTreeSet}
use Rattle.std.specs.List.{list_any}
use Rattle.std.specs.Str.{bytes_eq}
use Rattle.bosh_base.specs.Plan.{has_dynamic, is_listed}
use Rattle.bosh_base.specs.declared.addr.Addr.{Addr}
use Rattle.bosh_base.specs.declared.plan.Subnet.{Subnet}
use Rattle.bosh_bands.specs.Least.{IsLeast, PassesNowhere}
use Rattle.bosh_pool.specs.Free.{IsReady, is_used}
use Rattle.bosh_pool.specs.declared.closed.Closed.{Closed}
use Rattle.bosh_pool.specs.declared.spot.Spot.{Spot}

-- the least address that passes a test, or none where none does
abbrev pub Finds : (Addr → Bool) → Option Addr → Type 0
Finds test None = PassesNowhere test
Finds test (Some addr) = IsLeast test addr × (addr.0 < 2 ^ 32)

-- a subnet is of a network, and lies in a zone
abbrev pub serves : List ℕ → List ℕ → Subnet → Bool
serves net az subnet = bytes_eq subnet.net net && is_listed az subnet.azs

-- a subnet gives the address to whoever asks for any on the network and in the zone, and nobody has it
abbrev pub is_free_for : List ℕ → List ℕ → BTreeSet ℕ → Subnet → Addr → Bool
is_free_for net az used subnet addr = has_dynamic subnet net az addr && not (is_used used addr)

-- some subnet does
abbrev pub is_free_in : List ℕ → List ℕ → BTreeSet ℕ → List Subnet → Addr → Bool
is_free_in net az used subnets addr =
    list_any (λ subnet. has_dynamic subnet net az addr) subnets && not (is_used used addr)

abbrev pub lesser : Option Addr → Option Addr → Option Addr
lesser None other = other
lesser (Some a) None = Some a
lesser (Some a) (Some b) = Some (if nat_le a.0 b.0 then a else b)

-- the search may go on from its spot in each subnet, of which these are the closed bands
pub record AreReady (subnets : List Subnet) (closed : List Closed) (used : BTreeSet ℕ) (spots : List Spot)
    : Type 0 where
  pub closed_count : length closed ≡ length subnets
  pub spots_count : length spots ≡ length subnets
  pub each :
      (k : ℕ) (subnet : Subnet) (one : Closed) (spot : Spot) → k < length subnets
      → IsReady (slice_index_or subnets k subnet) (slice_index_or closed k one).bands used (slice_index_or spots k spot)
