-- The addresses that instances keep (bosh.io, "Networks": an instance keeps its dynamic address where it may).
use Rattle.std.specs.Prelude.{Bool, ◌&&◌, not, List, Option, find, option_map}
use Rattle.std.specs.List.{list_any}
use Rattle.std.specs.Str.{bytes_eq}
use Rattle.bosh_base.specs.Plan.{is_dynamic}
use Rattle.bosh_base.specs.declared.addr.Addr.{Addr}
use Rattle.bosh_base.specs.declared.plan.NetPlan.{NetPlan}
use Rattle.bosh_base.specs.declared.view.Held.{Held}
use Rattle.bosh_bands.specs.Least.{first_of}
use Rattle.bosh_pool.specs.Fixed.{holds, is_owner}
use Rattle.bosh_pool.specs.declared.want.Want.{Want}

abbrev pub is_taken : List Held → Addr → Bool
is_taken helds addr = list_any (holds addr) helds

-- an address of the instance on the network that is dynamic in its zone, and that nobody else has
abbrev pub is_kept : NetPlan → List Held → Want → Held → Bool
is_kept plan taken want held =
    is_owner want.inst held.owner
    && (bytes_eq held.net want.net
    && (is_dynamic plan want.net want.az held.addr && not (is_taken taken held.addr)))

abbrev pub addr_of : Held → Addr
addr_of held = held.addr

-- the address that the manifest gives to a want, or that the want keeps
abbrev pub own : NetPlan → List Held → List Held → Want → Option Addr
own plan taken kept want = first_of want.fixed (option_map addr_of (find (is_kept plan taken want) kept))
