-- The addresses that the instances of a deployment need, and those that they have.
use Rattle.std.specs.Prelude.{ℕ, ◌+◌, ◌&&◌, Bool, nat_lt, List, [], ◌∷◌, ◌++◌, Option, Some, None, filter, map, zero, suc}
use Rattle.std.specs.List.{flat_map, list_any}
use Rattle.std.specs.Str.{bytes_eq}
use Rattle.bosh_base.specs.declared.inst.Inst.{Inst}
use Rattle.bosh_base.specs.declared.make.Make.{Make}
use Rattle.bosh_base.specs.declared.addr.NetAddr.{NetAddr}
use Rattle.bosh_base.specs.declared.owner.Owner.TheVariants.{Instance}
use Rattle.bosh_base.specs.declared.row.Row.{Row}
use Rattle.bosh_base.specs.declared.view.Held.{Held}
use Rattle.bosh_manifest.specs.declared.group.Group.{Group}
use Rattle.bosh_manifest_parts.specs.declared.network.NetUse.{NetUse}
use Rattle.bosh_pool.specs.declared.want.Want.{Want}
use Rattle.bosh_wants.specs.Statics.{addr_in}
use Rattle.bosh_wants.specs.Zones.{inst_of, zone_of}

-- ---- what is wanted, by group, by index, by network

-- the numbers below one, in their order
abbrev pub below : ℕ → List ℕ
below zero = []
below (suc n) = below n ++ n ∷ []

-- an instance gets the address of its index, where the manifest gives addresses
abbrev pub want_of : List ℕ → List Row → Group → ℕ → NetUse → Want
want_of dep rows group index network = record {
  inst = inst_of dep group index;
  net = network.net;
  az = zone_of dep rows group index;
  fixed = addr_in network.fixed index;
}

abbrev pub instance_wants : List ℕ → List Row → Group → ℕ → List Want
instance_wants dep rows group index = map (want_of dep rows group index) group.networks

abbrev pub group_wants : List ℕ → List Row → Group → List Want
group_wants dep rows group = flat_map (instance_wants dep rows group) (below group.instances)

abbrev pub wants : List ℕ → List Row → List Group → List Want
wants dep rows groups = flat_map (group_wants dep rows) groups

-- ---- what recorded instances hold that stay in the goal

-- the instance is one of a group of the manifest
abbrev pub is_in : Inst → Group → Bool
is_in inst group = bytes_eq group.name inst.group && nat_lt inst.index group.instances

abbrev pub stays : List ℕ → List Group → Row → Bool
stays dep groups row = bytes_eq row.inst.dep dep && list_any (is_in row.inst) groups

abbrev pub held_of : Inst → NetAddr → Held
held_of inst net = record { owner = Instance inst; net = net.net; addr = net.addr }

-- an instance holds the addresses of its last machine
abbrev pub held_by : Inst → Option Make → List Held
held_by inst None = []
held_by inst (Some make) = map (held_of inst) make.nets

abbrev pub row_holds : Row → List Held
row_holds row = held_by row.inst row.make

abbrev pub kept : List ℕ → List Group → List Row → List Held
kept dep groups rows = flat_map row_holds (filter (stays dep groups) rows)
