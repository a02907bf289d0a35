-- Which addresses of a subnet are free, and how far they were looked through.
use Rattle.std.specs.Prelude.{◌≡◌, ℕ, ◌<◌, ◌≤◌, ◌^◌, Bool, true, false, ◌&&◌, ◌||◌, not, List, length, get_or}
use Rattle.std.specs.BTreeSet.{BTreeSet, contains}
use Rattle.std.specs.Ordering.{nat_cmp}
use Rattle.bosh_base.specs.Plan.{is_in_some, is_reserved, is_within}
use Rattle.bosh_base.specs.declared.addr.Addr.{Addr}
use Rattle.bosh_base.specs.declared.addr.Band.{Band}
use Rattle.bosh_base.specs.declared.plan.Subnet.{Subnet}
use Rattle.bosh_bands.specs.Order.{IsInOrder}
use Rattle.bosh_pool.specs.declared.spot.Spot.{Spot}

-- the subnet gives the address to whoever asks for any
abbrev pub is_open : Subnet → Addr → Bool
is_open subnet addr =
    is_within addr subnet.range && (not (is_reserved subnet addr) && not (is_in_some addr subnet.fixed))

-- the number of the address is in a set
abbrev pub is_used : BTreeSet ℕ → Addr → Bool
is_used used addr = contains nat_cmp used addr.0

-- and nobody has it
abbrev pub is_free : Subnet → BTreeSet ℕ → Addr → Bool
is_free subnet used addr = is_open subnet addr && not (is_used used addr)

-- the bands that were passed lie below the next number
abbrev pub ArePassed : List Band → Spot → Type 0
ArePassed bands spot = (k : ℕ) (d : Band) → k < spot.passed → (get_or bands k d).last.0 < spot.next

-- no address below a number is free
abbrev pub NoneBelow : Subnet → BTreeSet ℕ → ℕ → Type 0
NoneBelow subnet used next = (addr : Addr) → addr.0 < next → is_free subnet used addr ≡ false

-- the bands are those that the subnet gives to nobody or to those alone that ask for them by number
abbrev pub AreClosed : Subnet → List Band → Type 0
AreClosed subnet bands =
    (addr : Addr) → is_in_some addr bands ≡ (is_reserved subnet addr || is_in_some addr subnet.fixed)

-- a search may go on from a spot: no address before it is free
pub record IsReady (subnet : Subnet) (bands : List Band) (used : BTreeSet ℕ) (spot : Spot) : Type 0 where
  pub order : IsInOrder bands
  pub closed : AreClosed subnet bands
  pub within : spot.next ≤ 2 ^ 32
  pub room : spot.passed ≤ length bands
  pub passed : ArePassed bands spot
  pub begun : subnet.range.first.0 ≤ spot.next
  pub none : NoneBelow subnet used spot.next

-- a free address is the next, where that is in the range of the subnet
abbrev pub FreeAt : Subnet → BTreeSet ℕ → ℕ → Type 0
FreeAt subnet used next = (addr : Addr) → addr.0 ≡ next → next ≤ subnet.range.last.0 → is_free subnet used addr ≡ true
