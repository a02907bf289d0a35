-- What is left to do of a task, in the order of its phases: machines are asked, leftover compile machines are swept,
-- keys are compiled, obsolete instances are deleted, and then the groups are updated, stage by stage (this project's
-- profile; bosh.io, "Deploying", for the order of compilation and updates).
use Rattle.std.specs.Prelude.{ℕ, ◌+◌, Bool, true, false, eqb, nat_lt, not, ◌&&◌, ◌||◌, ◌==◌, if◌then◌else◌, Option, Some, None, is_some, List, [], ◌++◌, map, filter, length}
use Rattle.std.specs.List.{list_all}
use Rattle.std.specs.Option.{option_eq}
use Rattle.std.specs.Str.{bytes_eq}
use Rattle.bosh_base.specs.declared.goal.Goal.{Goal}
use Rattle.bosh_base.specs.declared.goal.GroupPlan.{GroupPlan}
use Rattle.bosh_base.specs.declared.inst.Inst.{Inst}
use Rattle.bosh_base.specs.declared.make.Make.{Make}
use Rattle.bosh_base.specs.declared.owner.Owner.{Owner}
use Rattle.bosh_base.specs.declared.owner.Owner.TheVariants.{Instance, Compile, Disk}
use Rattle.bosh_history.specs.Known.{Known, Task, SlotName, plan_in}
use Rattle.bosh_history.specs.Slots.{next_key}
use Rattle.bosh_history.specs.Words.{is_among, numbers_below, holds}
use Rattle.bosh_roll.specs.declared.upd.Upd.{Upd}
use Rattle.bosh_roll.specs.declared.upd.Upd.TheVariants.{Finished}
use Rattle.bosh_rows.specs.Same.{same_inst}

abbrev pub is_finished : Upd → Bool
is_finished Finished = true
is_finished upd = false

-- ---- one owner

abbrev pub is_to_ping : Task → Inst → Bool
is_to_ping t i = is_among same_inst i t.to_ping && not (t.pinged i)

abbrev pub is_to_go : Task → Inst → Bool
is_to_go t i = is_among same_inst i t.obsolete && not (t.gone i)

abbrev pub is_to_change : Task → Inst → Bool
is_to_change t i = is_among same_inst i t.changed && not (is_finished (t.upd i))

abbrev pub stage_of : Option GroupPlan → ℕ
stage_of (Some plan) = plan.stage
stage_of None = 0

-- the phase in which something is left to do for an instance
abbrev pub instance_phase : Task → Inst → Option ℕ
instance_phase t i =
    if is_to_ping t i then Some 0
    else (if is_to_go t i then Some 3
    else (if is_to_change t i then Some (4 + stage_of (plan_in t.goal i)) else None))

abbrev pub slots_of : Option Goal → List Make
slots_of (Some goal) = goal.slots
slots_of None = []

-- A slot of the task is left while its machine is recorded, and while there is a key that it may take.
abbrev pub is_slot_left : Known → ℕ → ℕ → Bool
is_slot_left k t s =
    nat_lt s (length (slots_of (k.task t).goal)) && (is_some (k.slot t s) || is_some (next_key k t s))

-- the compile machine is recorded, and is of the deployment
abbrev pub is_in_deployment : Known → Option (List ℕ) → SlotName → Bool
is_in_deployment k dep name = holds (λ it. option_eq bytes_eq (Some it.dep) dep) (k.slot name.task name.slot)

-- a compile machine of an earlier task of the deployment
abbrev pub is_leftover : Known → ℕ → SlotName → Bool
is_leftover k t name = not (name.task == t) && is_in_deployment k (k.task t).dep name

abbrev pub slot_phase : Known → ℕ → SlotName → Option ℕ
slot_phase k t name =
    if name.task == t then (if is_slot_left k t name.slot then Some 2 else None)
    else (if is_leftover k t name then Some 1 else None)

-- the phase in which something is left to do for an owner: 0 for pings and for the disks of a clean-up, 1 for the
-- sweep, 2 for keys, 3 for obsolete instances, and from 4 on the stages of groups
abbrev pub phase_of : Known → ℕ → Owner → Option ℕ
phase_of k t (Instance i) = instance_phase (k.task t) i
phase_of k t (Compile task slot) = slot_phase k t (record { task = task; slot = slot })
phase_of k t (Disk d) = if is_among eqb d (k.task t).disks && is_some (k.orphan d) then Some 0 else None

-- ---- all owners

-- Whom a task may have something to do for, in the order in which it is tried. One that was asked, or that went, and is
-- to change stands at the place of its change alone; one that is still to be asked, or to go, stands at both.
abbrev pub candidates : Known → ℕ → List Owner
candidates k t =
    map Instance (filter (is_to_ping (k.task t)) (k.task t).to_ping)
    ++ map (λ name. Compile name.task name.slot) (filter (is_leftover k t) k.machines)
    ++ map (Compile t) (numbers_below (length (slots_of (k.task t).goal)))
    ++ map Instance (filter (is_to_go (k.task t)) (k.task t).obsolete)
    ++ map Instance (k.task t).changed
    ++ map Disk (k.task t).disks

abbrev pub is_before : ℕ → Option ℕ → Bool
is_before phase (Some other) = nat_lt other phase
is_before phase None = false

-- nothing is left in an earlier phase
abbrev pub none_left_before : Known → ℕ → ℕ → Bool
none_left_before k t phase = list_all (λ owner. not (is_before phase (phase_of k t owner))) (candidates k t)

-- something is left to do for the owner, and nothing in an earlier phase: it is an item of the present phase
abbrev pub is_item : Known → ℕ → Owner → Bool
is_item k t owner = holds (none_left_before k t) (phase_of k t owner)

-- the items of the present phase, in order
abbrev pub items : Known → ℕ → List Owner
items k t = filter (is_item k t) (candidates k t)
