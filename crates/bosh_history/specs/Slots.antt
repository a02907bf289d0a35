-- Compile machines: which key a slot takes, and what a call changes in what is recorded of it
-- (bosh.io, "Compilation": packages are compiled on machines that are made for it and deleted then).
use Rattle.std.specs.Prelude.{ℕ, Bool, not, ◌&&◌, ◌==◌, Option, Some, None, is_some, List, [], find}
use Rattle.std.specs.List.{list_any, list_all}
use Rattle.std.specs.Option.{option_and_then, option_map}
use Rattle.bosh_base.specs.declared.answer.Answer.{Answer}
use Rattle.bosh_base.specs.declared.answer.Answer.TheVariants as answers
use Rattle.bosh_base.specs.declared.call.Call.{Call}
use Rattle.bosh_base.specs.declared.call.Call.TheVariants.{CreateVm, DeleteVm, HasVm, FindVm}
use Rattle.bosh_base.specs.declared.goal.Goal.{Goal}
use Rattle.bosh_base.specs.declared.key.Key.{Key}
use Rattle.bosh_base.specs.declared.key.KeyWork.{KeyWork}
use Rattle.bosh_compile.specs.Readiness.{same_key}
use Rattle.bosh_history.specs.Known.{Known, Slot, SlotName}
use Rattle.bosh_history.specs.Words.{holds}

-- ---- keys

-- the key is compiled
abbrev pub is_compiled : Known → Key → Bool
is_compiled k key = is_some (k.digest key)

-- all that the work needs is compiled
abbrev pub is_ready : Known → KeyWork → Bool
is_ready k work = list_all (is_compiled k) work.deps

abbrev pub keys_of : Option Goal → List KeyWork
keys_of (Some goal) = goal.keys
keys_of None = []

-- a compile machine is for the key
abbrev pub works_for : Key → Option Slot → Bool
works_for key slot = holds (same_key key) (option_and_then (λ it. it.key) slot)

-- it is of another slot of the task than this one, and is for the key
abbrev pub takes : Known → ℕ → ℕ → Key → SlotName → Bool
takes k t s key name = name.task == t && (not (name.slot == s) && works_for key (k.slot t name.slot))

-- another slot of the task works for the key
abbrev pub is_taken : Known → ℕ → ℕ → Key → Bool
is_taken k t s key = list_any (takes k t s key) k.machines

-- a slot of the task may take the key: all that it needs is compiled, it is not, and no other slot of the task works for
-- it
abbrev pub may_take : Known → ℕ → ℕ → KeyWork → Bool
may_take k t s work = is_ready k work && (not (is_compiled k work.key) && not (is_taken k t s work.key))

-- the first key of the goal that a slot of the task may take
abbrev pub next_key : Known → ℕ → ℕ → Option KeyWork
next_key k t s = find (may_take k t s) (keys_of (k.task t).goal)

-- all keys of a goal are compiled
abbrev pub are_all_compiled : Known → Option Goal → Bool
are_all_compiled k goal = list_all (λ work. is_compiled k work.key) (keys_of goal)

-- ---- what a call changes

abbrev pub in_doubt : ℕ → Call → Slot → Slot
in_doubt n call it = record it { doubt = Some (record { n = n; call = call }) }

-- a call of a compile machine begins, which its deployment and the key that it is for come with
abbrev pub slot_begun : ℕ → Call → List ℕ → Option Key → Option Slot → Option Slot
slot_begun n (CreateVm make disks) dep key old =
    Some (in_doubt n (CreateVm make disks) (record { dep = dep; make = make; vm = None; doubt = None; key = key }))
slot_begun n (DeleteVm vm) dep key old = option_map (in_doubt n (DeleteVm vm)) old
slot_begun n call dep key old = old

abbrev pub slot_found : ℕ → Option ℕ → Slot → Option Slot
slot_found agent (Some v) it = Some (record it { vm = Some (record { vm = v; agent = agent }); doubt = None })
slot_found agent None it = None

-- .. and is answered; a machine that is not there is recorded no more
abbrev pub slot_told : ℕ → Call → Answer → Slot → Option Slot
slot_told n (CreateVm make disks) (answers.Cid v) it = slot_found n (Some v) it
slot_told n (FindVm agent) (answers.Found vm) it = slot_found agent vm it
slot_told n (DeleteVm vm) answers.Done it = None
slot_told n (DeleteVm vm) answers.Gone it = Some (record it { doubt = None })
slot_told n (HasVm vm) answers.No it = None
slot_told n (HasVm vm) answers.Yes it = Some (record it { doubt = None })
slot_told n call answer it = Some it

abbrev pub slot_after : ℕ → Call → Answer → Option Slot → Option Slot
slot_after n call answer slot = option_and_then (slot_told n call answer) slot
