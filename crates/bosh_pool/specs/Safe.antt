-- What is true of assigned addresses, beside which ones they are.
use Rattle.std.specs.Prelude.{◌≡◌, Bool, true, false, ◌&&◌, List, Option, Some, None}
use Rattle.std.specs.List.{AllPairs, Contains}
use Rattle.std.specs.Str.{bytes_eq}
use Rattle.bosh_base.specs.Plan.{is_dynamic, is_reserved, is_static, is_within}
use Rattle.bosh_base.specs.declared.addr.Addr.{Addr}
use Rattle.bosh_base.specs.declared.plan.NetPlan.{NetPlan}
use Rattle.bosh_base.specs.declared.plan.Subnet.{Subnet}
use Rattle.bosh_base.specs.declared.view.Held.{Held}
use Rattle.bosh_pool.specs.Fixed.{other_owner, owner_in, same_addr, same_inst}
use Rattle.bosh_pool.specs.declared.want.Want.{Want}

-- the network gives the address in the zone of a want: as a static one where the manifest names it, and else as a
-- dynamic one
abbrev pub lends : NetPlan → Want → Addr → Option Addr → Bool
lends plan want addr None = is_dynamic plan want.net want.az addr
lends plan want addr (Some fixed) = is_static plan want.net want.az addr

abbrev pub IsLent : NetPlan → Want → Addr → Type 0
IsLent plan want addr = lends plan want addr want.fixed ≡ true

-- no subnet in whose range the address lies reserves it: it is in no reserved band, at no end and not the gateway
abbrev pub IsUnreserved : NetPlan → Addr → Type 0
IsUnreserved plan addr =
    (subnet : Subnet) → Contains plan.subnets subnet → is_within addr subnet.range ≡ true
    → is_reserved subnet addr ≡ false

-- none of the others has it
abbrev pub IsUntaken : List Held → Addr → Type 0
IsUntaken taken addr = owner_in addr taken ≡ None

-- none of the deployment's other instances has it
abbrev pub IsUnshared : List Held → Want → Addr → Type 0
IsUnshared kept want addr = other_owner want.inst addr kept ≡ None

-- no address is held twice
abbrev pub AreHeldOnce : List Held → Type 0
AreHeldOnce helds = AllPairs (λ one other. same_addr one.addr other.addr ≡ false) helds

-- no instance wants two addresses on one network
abbrev pub AreWantedOnce : List Want → Type 0
AreWantedOnce wants = AllPairs (λ one other. (same_inst one.inst other.inst && bytes_eq one.net other.net) ≡ false) wants

abbrev pub AreDifferent : List Addr → Type 0
AreDifferent addrs = AllPairs (λ one other. same_addr one other ≡ false) addrs
