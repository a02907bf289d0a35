-- What is looked for in a config once its tables are read, in this order (this project's profile): names that it does
-- not have; then, subnet by subnet, addresses out of place; last, subnets that have an address in common.
use Rattle.std.specs.Prelude.{ℕ, Bool, false, ◌&&◌, ◌||◌, not, nat_le, List, [], ◌∷◌, Option, Some, None, find, option_map, if◌then◌else◌}
use Rattle.std.specs.List.{list_any}
use Rattle.std.specs.Str.{bytes_eq}
use Rattle.bosh_base.specs.Plan.{is_in_some, is_listed, is_reserved, is_within}
use Rattle.bosh_base.specs.declared.addr.Addr.{Addr}
use Rattle.bosh_base.specs.declared.addr.Band.{Band}
use Rattle.bosh_base.specs.declared.plan.Subnet.{Subnet}
use Rattle.bosh_bands.specs.Least.{first_of, least}
use Rattle.bosh_cloudcfg.specs.declared.config.Config.{Config}
use Rattle.bosh_cloudcfg.specs.declared.config.VmKind.{VmKind}
use Rattle.bosh_cloudcfg.specs.declared.fault.ConfigFault.{ConfigFault}
use Rattle.bosh_cloudcfg.specs.declared.fault.ConfigFault.TheVariants.{Unknown, OutsideRange, StaticReserved, Overlap}

-- what is found in the first item in which something is
abbrev pub first_in : {A B : Type 0} → (A → Option B) → List A → Option B
first_in look [] = None
first_in look (x ∷ xs) = first_of (look x) (first_in look xs)

-- a name, where a test of it fails
abbrev pub unless_known : Bool → List ℕ → Option ConfigFault
unless_known known name = if known then None else Some (Unknown name)

-- the first zone of a subnet that is none of the config's
abbrev pub unknown_zone : List (List ℕ) → Subnet → Option ConfigFault
unknown_zone azs subnet = option_map Unknown (find (λ az. not (is_listed az azs)) subnet.azs)

abbrev pub is_vm_type : List ℕ → List VmKind → Bool
is_vm_type name kinds = list_any (λ kind. bytes_eq kind.name name) kinds

-- the zones of the subnets, and then the zone, the type of machines and the network of the compilation
abbrev pub unknown_name : Config → Option ConfigFault
unknown_name config =
    first_of (first_in (unknown_zone config.azs) config.plan.subnets)
    (first_of (unless_known (is_listed config.compilation.az config.azs) config.compilation.az)
    (first_of (unless_known (is_vm_type config.compilation.vm_type config.vm_types) config.compilation.vm_type)
    (unless_known (is_listed config.compilation.network config.networks) config.compilation.network)))

abbrev pub outside : Band → Addr → Option Addr
outside range addr = if is_within addr range then None else Some addr

abbrev pub gateway_outside : Band → Option Addr → Option Addr
gateway_outside range None = None
gateway_outside range (Some gateway) = outside range gateway

-- the first end of a band that is outside the range
abbrev pub end_outside : Band → Band → Option Addr
end_outside range band = first_of (outside range band.first) (outside range band.last)

-- the gateway, or the first end of a reserved or then of a static band, that is outside the range
abbrev pub outside_range : Subnet → Option Addr
outside_range subnet =
    first_of (gateway_outside subnet.range subnet.gateway)
    (first_of (first_in (end_outside subnet.range) subnet.reserved)
    (first_in (end_outside subnet.range) subnet.fixed))

-- the least address that is static and reserved at once
abbrev pub static_reserved : Subnet → Option Addr
static_reserved subnet = least (λ addr. is_in_some addr subnet.fixed && is_reserved subnet addr)

abbrev pub out_of_place : Subnet → Option ConfigFault
out_of_place subnet =
    first_of (option_map OutsideRange (outside_range subnet)) (option_map StaticReserved (static_reserved subnet))

abbrev pub have_common : Band → Band → Bool
have_common one other = nat_le one.first.0 other.last.0 && nat_le other.first.0 one.last.0

-- the ranges of two subnets, of whatever networks, have an address in common
abbrev pub overlap : List Subnet → Bool
overlap [] = false
overlap (subnet ∷ subnets) = list_any (λ other. have_common subnet.range other.range) subnets || overlap subnets

abbrev pub first_fault : Config → Option ConfigFault
first_fault config =
    first_of (unknown_name config)
    (first_of (first_in out_of_place config.plan.subnets)
    (if overlap config.plan.subnets then Some Overlap else None))
