-- The addresses that the manifest gives (bosh.io, "Networks": `static_ips` of an instance group; the order of the
-- refusals is this project's profile).
use Rattle.std.specs.Prelude.{ℕ, Bool, false, ◌&&◌, ◌==◌, not, List, [], ◌∷◌, ◌++◌, Option, Some, None, find, option_map, if◌then◌else◌}
use Rattle.std.specs.List.{list_any}
use Rattle.std.specs.Str.{bytes_eq}
use Rattle.bosh_base.specs.Plan.{is_in_some, is_reserved, is_static, is_within}
use Rattle.bosh_base.specs.declared.addr.Addr.{Addr}
use Rattle.bosh_base.specs.declared.inst.Inst.{Inst}
use Rattle.bosh_base.specs.declared.owner.Owner.{Owner}
use Rattle.bosh_base.specs.declared.owner.Owner.TheVariants.{Instance, Compile, Disk}
use Rattle.bosh_base.specs.declared.plan.NetPlan.{NetPlan}
use Rattle.bosh_base.specs.declared.plan.Subnet.{Subnet}
use Rattle.bosh_base.specs.declared.view.Held.{Held}
use Rattle.bosh_bands.specs.Least.{first_of}
use Rattle.bosh_pool.specs.declared.fault.PoolFault.{PoolFault}
use Rattle.bosh_pool.specs.declared.fault.PoolFault.TheVariants.{NotStatic, StaticNotInAz, Taken}
use Rattle.bosh_pool.specs.declared.want.Want.{Want}

-- a subnet of the network has the address as a static one, in whatever zones it lies
abbrev pub has_fixed : List ℕ → Addr → Subnet → Bool
has_fixed net addr subnet =
    bytes_eq subnet.net net
    && (is_within addr subnet.range && (not (is_reserved subnet addr) && is_in_some addr subnet.fixed))

abbrev pub same_addr : Addr → Addr → Bool
same_addr one other = one.0 == other.0

-- an entry holds the address, whatever its network
abbrev pub holds : Addr → Held → Bool
holds addr held = same_addr held.addr addr

abbrev pub same_inst : Inst → Inst → Bool
same_inst one other = bytes_eq one.dep other.dep && (bytes_eq one.group other.group && one.index == other.index)

abbrev pub is_owner : Inst → Owner → Bool
is_owner inst (Instance other) = same_inst other inst
is_owner inst (Compile task slot) = false
is_owner inst (Disk disk) = false

abbrev pub owner_of : Held → Owner
owner_of held = held.owner

-- whoever has the address
abbrev pub owner_in : Addr → List Held → Option Owner
owner_in addr helds = option_map owner_of (find (holds addr) helds)

-- whoever has it beside the instance
abbrev pub other_owner : Inst → Addr → List Held → Option Owner
other_owner inst addr helds =
    option_map owner_of (find (λ held. holds addr held && not (is_owner inst held.owner)) helds)

abbrev pub is_given : Addr → Option Addr → Bool
is_given addr None = false
is_given addr (Some fixed) = same_addr fixed addr

abbrev pub instance_of : Want → Owner
instance_of want = Instance want.inst

-- the instance to which the manifest gives it
abbrev pub given_to : Addr → List Want → Option Owner
given_to addr wants = option_map instance_of (find (λ want. is_given addr want.fixed) wants)

-- whoever has the address of a want: somebody else, another instance of the deployment, or that of an earlier want
abbrev pub holder : List Held → List Held → List Want → Want → Addr → Option Owner
holder taken kept before want addr =
    first_of (owner_in addr taken) (first_of (other_owner want.inst addr kept) (given_to addr before))

-- the fault of an address that the manifest gives to a want, and that somebody may have
abbrev pub fault_at : NetPlan → Want → Addr → Option Owner → Option PoolFault
fault_at plan want addr owner =
    if not (list_any (has_fixed want.net addr) plan.subnets) then Some (NotStatic addr)
    else if not (is_static plan want.net want.az addr) then Some (StaticNotInAz addr)
    else option_map (Taken addr) owner

abbrev pub fixed_fault : NetPlan → List Held → List Held → List Want → Want → Option Addr → Option PoolFault
fixed_fault plan taken kept before want None = None
fixed_fault plan taken kept before want (Some addr) = fault_at plan want addr (holder taken kept before want addr)

-- the first fault of an address that the manifest gives, where each want comes after those before it
abbrev pub fixed_faults : NetPlan → List Held → List Held → List Want → List Want → Option PoolFault
fixed_faults plan taken kept before [] = None
fixed_faults plan taken kept before (want ∷ wants) =
    first_of (fixed_fault plan taken kept before want want.fixed)
    (fixed_faults plan taken kept (before ++ want ∷ []) wants)
