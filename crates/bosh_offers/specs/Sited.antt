-- The addresses of the instances of groups. Addresses stand by group, by index and by network.
use Rattle.std.specs.Prelude.{ℕ, zero, suc, List, [], ◌∷◌, cond, drop, length, map, slice_index_or, take}
use Rattle.bosh_base.specs.declared.addr.Addr.{Addr}
use Rattle.bosh_manifest.specs.declared.group.Group.{Group}
use Rattle.bosh_manifest_parts.specs.declared.network.NetUse.{NetUse}
use Rattle.bosh_manifest_names.specs.Used.{UsedGroup}

-- a group, with the addresses of each of its instances in the order of the networks
pub record Sited : Type 0 where
  pub used : UsedGroup
  pub instances : List (List Addr)

-- the addresses of so many instances, each of which has so many
abbrev pub by_instance : ℕ → ℕ → List Addr → List (List Addr)
by_instance zero width addrs = []
by_instance (suc count) width addrs = take width addrs ∷ by_instance count width (drop width addrs)

-- what follows them
abbrev pub beyond : ℕ → ℕ → List Addr → List Addr
beyond zero width addrs = addrs
beyond (suc count) width addrs = beyond count width (drop width addrs)

abbrev pub site : UsedGroup → List Addr → Sited
site used addrs =
    record { used = used; instances = by_instance used.group.instances (length used.group.networks) addrs }

abbrev pub after_group : UsedGroup → List Addr → List Addr
after_group used addrs = beyond used.group.instances (length used.group.networks) addrs

-- the groups one after another
abbrev pub sites : List UsedGroup → List Addr → List Sited
sites [] addrs = []
sites (used ∷ groups) addrs = site used addrs ∷ sites groups (after_group used addrs)

-- the place of the network whose gateway the instances have (bosh.io, "Networks": `default: [gateway]`)
abbrev pub gateway_place : List NetUse → ℕ
gateway_place [] = 0
gateway_place (network ∷ networks) = cond network.gateway 0 (suc (gateway_place networks))

abbrev pub no_addr : Addr
no_addr = record { 0 = 0 }

-- the address of an instance on that network
abbrev pub gateway_addr : Group → List Addr → Addr
gateway_addr group own = slice_index_or own (gateway_place group.networks) no_addr

-- those of all instances, by index
abbrev pub gateway_addrs : Sited → List Addr
gateway_addrs group = map (gateway_addr group.used.group) group.instances
