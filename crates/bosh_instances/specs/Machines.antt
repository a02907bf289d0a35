-- The machine and the state of an instance.
use Rattle.std.specs.Prelude.{ℕ, List, [], ◌∷◌, Option, Some, None, find, slice_index_or}
use Rattle.bosh_base.specs.declared.addr.Addr.{Addr}
use Rattle.bosh_base.specs.declared.addr.NetAddr.{NetAddr}
use Rattle.bosh_base.specs.declared.goal.Goal.{Goal}
use Rattle.bosh_base.specs.declared.goal.GoalRow.{GoalRow}
use Rattle.bosh_base.specs.declared.inst.Inst.{Inst}
use Rattle.bosh_base.specs.declared.make.Make.{Make}
use Rattle.bosh_base.specs.declared.state.State.{State}
use Rattle.bosh_base.specs.declared.state.State.TheVariants.{Running}
use Rattle.bosh_manifest_parts.specs.declared.network.NetUse.{NetUse}
use Rattle.bosh_offers.specs.Sited.{Sited}
use Rattle.bosh_pool.specs.Fixed.{same_inst}
use Rattle.bosh_manifest_names.specs.Used.{UsedGroup}

-- an address a network, in the order of the group
abbrev pub net_addrs : List NetUse → List Addr → List NetAddr
net_addrs [] addrs = []
net_addrs (network ∷ networks) [] = []
net_addrs (network ∷ networks) (addr ∷ addrs) = record { net = network.net; addr = addr } ∷ net_addrs networks addrs

-- what a machine of a group is made from, in a zone and with some addresses
abbrev pub make_of : UsedGroup → List ℕ → List Addr → Make
make_of used az own = record {
  os = used.stemcell.os;
  version = used.stemcell.version;
  az = az;
  vm = used.machine;
  nets = net_addrs used.group.networks own;
}

-- the addresses of an instance
abbrev pub own_addrs : Sited → ℕ → List Addr
own_addrs group index = slice_index_or group.instances index []

abbrev pub state_in : Option GoalRow → State
state_in None = Running
state_in (Some row) = row.state

-- an instance keeps the state that it is to have by the current goal, and a new one is to run
abbrev pub state_of : Option Goal → Inst → State
state_of None inst = Running
state_of (Some goal) inst = state_in (find (λ row. same_inst row.inst inst) goal.rows)
