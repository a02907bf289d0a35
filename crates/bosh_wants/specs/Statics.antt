-- The addresses that a manifest gives (bosh.io, "Networks": `static_ips` of an instance group).
use Rattle.std.specs.Prelude.{ℕ, ◌+◌, ◌-◌, ◌==◌, ◌||◌, Bool, nat_lt, not, List, [], ◌∷◌, Option, Some, None, find, option_map, sum_by, if◌then◌else◌}
use Rattle.std.specs.List.{list_all}
use Rattle.bosh_base.specs.declared.addr.Addr.{Addr}
use Rattle.bosh_base.specs.declared.addr.Band.{Band}
use Rattle.bosh_manifest.specs.declared.group.Group.{Group}
use Rattle.bosh_manifest_parts.specs.declared.network.NetUse.{NetUse}
use Rattle.bosh_pool.specs.declared.fault.PoolFault.{PoolFault}
use Rattle.bosh_pool.specs.declared.fault.PoolFault.TheVariants.{StaticCount}

-- how many addresses a band has, both ends counted
abbrev pub size_of : Band → ℕ
size_of band = (band.last.0 - band.first.0) + 1

abbrev pub count_in : List Band → ℕ
count_in bands = sum_by size_of bands

-- the addresses of bands one after another, by their places
abbrev pub addr_in : List Band → ℕ → Option Addr
addr_in [] place = None
addr_in (band ∷ bands) place =
    if nat_lt place (size_of band) then Some (record { 0 = band.first.0 + place })
    else addr_in bands (place - size_of band)

-- none, or one for each instance
abbrev pub fits : ℕ → NetUse → Bool
fits instances network = (count_in network.fixed == 0) || (count_in network.fixed == instances)

abbrev pub all_fit : Group → Bool
all_fit group = list_all (fits group.instances) group.networks

abbrev pub miscounted : Group → PoolFault
miscounted group = StaticCount group.name

-- the first group of which some network has another number
abbrev pub static_fault : List Group → Option PoolFault
static_fault groups = option_map miscounted (find (λ group. not (all_fit group)) groups)
