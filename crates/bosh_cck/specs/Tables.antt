-- What is found by the tables of machines and of numbers.
use Rattle.std.specs.Prelude.{◌≡◌, ℕ, Bool, false, ◌==◌, List, [], Option, Some, None, filter, filter_map, map, Vec}
use Rattle.std.specs.BTreeMap.{BTreeMap, get_by}
use Rattle.std.specs.BTreeSet.{BTreeSet, contains}
use Rattle.std.specs.Ordering.{nat_cmp}
use Rattle.std.specs.declared.alloc.Global.{Global}
use denote.Ref.{Bor}
use Rattle.bosh_base.specs.Inst.{inst_cmp}
use Rattle.bosh_base.specs.declared.inst.Inst.{Inst}
use Rattle.bosh_base.specs.declared.machine.Disk.{Disk}
use Rattle.bosh_base.specs.declared.machine.Machine.{Machine}
use Rattle.bosh_base.specs.declared.owner.Owner.TheVariants.{Instance}
use Rattle.bosh_rows.specs.Same.{same_owner}

-- what stands in the slots that are not empty
abbrev pub all_there : {A : Type 0} → List (Option A) → List A
all_there slots = filter_map (λ slot. slot) slots

-- what is behind references
abbrev pub seen : {A : Type 0} → List (Bor A) → List A
seen items = map (λ item. item.now) items

-- the machines of an instance
abbrev pub owned : Inst → List Machine → List Machine
owned inst machines = filter (λ it. same_owner it.owner (Instance inst)) machines

abbrev pub listed : Option (Vec (Bor Machine) Global) → List Machine
listed None = []
listed (Some machines) = seen machines.items

-- the machines that a table has under an instance
abbrev pub owned_by : BTreeMap (Bor Inst) (Vec (Bor Machine) Global) → Inst → List Machine
owned_by table inst = listed (get_by (λ key. inst_cmp inst key.now) table)

-- each instance has its machines in a table
abbrev pub AreOwned : List Machine → BTreeMap (Bor Inst) (Vec (Bor Machine) Global) → Type 0
AreOwned machines table = (inst : Inst) → owned_by table inst ≡ owned inst machines

-- a set has the number
abbrev pub has : BTreeSet ℕ → ℕ → Bool
has set number = contains nat_cmp set number

-- a slot has the disk of the number
abbrev pub is_slot_of : ℕ → Option Disk → Bool
is_slot_of number None = false
is_slot_of number (Some it) = it.disk == number
