-- Tests of the parts that rows and goals are compared by: each is the `==` of its type.
use Rattle.std.specs.Prelude.{Bool, false, ◌&&◌, ◌==◌, Option, Some, None}
use Rattle.std.specs.Str.{bytes_eq}
use Rattle.bosh_base.specs.contracts.disk_want.DiskWantPartialEq.TheImpl as disk_want
use Rattle.bosh_base.specs.contracts.make.MakePartialEq.TheImpl as make
use Rattle.bosh_base.specs.contracts.link.TiePartialEq.TheImpl as tie
use Rattle.bosh_base.specs.contracts.spec.SpecPartialEq.TheImpl as spec
use Rattle.bosh_base.specs.contracts.state.StatePartialEq.TheImpl as state
use Rattle.bosh_base.specs.declared.disk_want.DiskWant.{DiskWant}
use Rattle.bosh_base.specs.declared.inst.Inst.{Inst}
use Rattle.bosh_base.specs.declared.link.Tie.{Tie}
use Rattle.bosh_base.specs.declared.make.Make.{Make}
use Rattle.bosh_base.specs.declared.owner.Owner.{Owner}
use Rattle.bosh_base.specs.declared.owner.Owner.TheVariants.{Instance, Compile, Disk}
use Rattle.bosh_base.specs.declared.spec.Spec.{Spec}
use Rattle.bosh_base.specs.declared.state.State.{State}

-- the same member of the same group of the same deployment
abbrev pub same_inst : Inst → Inst → Bool
same_inst a b = bytes_eq a.dep b.dep && (bytes_eq a.group b.group && a.index == b.index)

-- the same instance, slot of a task, or orphaned disk
abbrev pub same_owner : Owner → Owner → Bool
same_owner (Instance a) (Instance b) = same_inst a b
same_owner (Compile task slot) (Compile other k) = task == other && slot == k
same_owner (Disk a) (Disk b) = a == b
same_owner a b = false

-- the instance that an owner is, where it is one
abbrev pub instance_of : Owner → Option Inst
instance_of (Instance i) = Some i
instance_of owner = None

abbrev pub same_make : Make → Make → Bool
same_make = make.ghosts.eq

abbrev pub same_spec : Spec → Spec → Bool
same_spec = spec.ghosts.eq

abbrev pub same_want : DiskWant → DiskWant → Bool
same_want = disk_want.ghosts.eq

abbrev pub same_state : State → State → Bool
same_state = state.ghosts.eq

abbrev pub same_tie : Tie → Tie → Bool
same_tie = tie.ghosts.eq
