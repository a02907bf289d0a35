-- What compile machines are made from (bosh.io, "Cloud config": `compilation`).
use Rattle.std.specs.Prelude.{ℕ, zero, suc, List, [], ◌∷◌, ◌++◌, Option, Some, None, Result, Ok, Err, map, min, option_map, unwrap_or}
use Rattle.std.specs.List.{flat_map, list_any}
use Rattle.bosh_base.specs.declared.addr.Addr.{Addr}
use Rattle.bosh_base.specs.declared.addr.NetAddr.{NetAddr}
use Rattle.bosh_base.specs.declared.goal.Goal.{Goal}
use Rattle.bosh_base.specs.declared.goal.GoalRow.{GoalRow}
use Rattle.bosh_base.specs.declared.make.Make.{Make}
use Rattle.bosh_base.specs.declared.row.Row.{Row}
use Rattle.bosh_base.specs.declared.view.Held.{Held}
use Rattle.bosh_base.specs.declared.view.View.{View}
use Rattle.bosh_cloudcfg.specs.declared.config.Compilation.{Compilation}
use Rattle.bosh_cloudcfg.specs.declared.config.Config.{Config}
use Rattle.bosh_lookup.specs.Table.{first_named}
use Rattle.bosh_pool.specs.Fixed.{same_addr}
use Rattle.bosh_pool.specs.Spare.{spares}
use Rattle.bosh_pool.specs.declared.fault.PoolFault.TheVariants.{Empty}
use Rattle.bosh_manifest_names.specs.Uses.{machine_name, machine_properties, no_properties}
use Rattle.bosh_manifest_names.specs.declared.fault.GoalFault.{GoalFault}
use Rattle.bosh_manifest_names.specs.declared.fault.GoalFault.TheVariants.{Pool}

-- ---- the addresses that are held

abbrev pub held_addr : Held → Addr
held_addr held = held.addr

abbrev pub net_addr : NetAddr → Addr
net_addr net = net.addr

abbrev pub made_addrs : Make → List Addr
made_addrs make = map net_addr make.nets

-- a recorded instance holds the addresses of its last machine
abbrev pub row_addrs : Row → List Addr
row_addrs row = by_make row.make
  where
    by_make : Option Make → List Addr
    by_make None = []
    by_make (Some make) = made_addrs make

abbrev pub goal_row_addrs : GoalRow → List Addr
goal_row_addrs row = made_addrs row.make

abbrev pub goal_addrs : Option Goal → List Addr
goal_addrs None = []
goal_addrs (Some goal) = flat_map goal_row_addrs goal.rows

-- those of other deployments, of this one's compile machines, of its recorded instances and of its current goal
abbrev pub held_addrs : View → List Addr
held_addrs view =
    map held_addr view.taken
    ++ (map held_addr view.leftover ++ (flat_map row_addrs view.rows ++ goal_addrs view.goal))

-- ---- slots

-- the cloud properties of the machines
abbrev pub machine : Config → List ℕ
machine config =
    unwrap_or (option_map machine_properties (first_named machine_name config.vm_types config.compilation.vm_type)) no_properties

-- a machine of these properties; it takes the operating system of the key that it compiles
abbrev pub slot_with : Compilation → List ℕ → Addr → Make
slot_with compilation properties addr = record {
  os = [];
  version = [];
  az = compilation.az;
  vm = properties;
  nets = record { net = compilation.network; addr = addr } ∷ [];
}

abbrev pub slot : Config → Addr → Make
slot config = slot_with config.compilation (machine config)

-- the least addresses of the network that nobody holds, one a machine
abbrev pub addrs_for : Config → ℕ → List Addr → List Addr
addrs_for config keys held =
    spares config.plan config.compilation.network config.compilation.az (min config.compilation.workers keys)
    (λ addr. list_any (same_addr addr) held)

abbrev pub with_addrs : Config → List Addr → Result (List Make) GoalFault
with_addrs config [] = Err (Pool (Empty config.compilation.network))
with_addrs config (addr ∷ addrs) = Ok (map (slot config) (addr ∷ addrs))

-- as many as there are workers, keys and spare addresses, and none without keys; `own` is what the goal itself takes
abbrev pub slots : Config → ℕ → List Addr → View → Result (List Make) GoalFault
slots config zero own view = Ok []
slots config (suc keys) own view = with_addrs config (addrs_for config (suc keys) (held_addrs view ++ own))
