-- The changed instances of a task by their groups (bosh.io, "Deployment manifest", "update").
use Rattle.std.specs.Prelude.{ℕ, Bool, false, true, List, [], ◌∷◌, ◌++◌, Option, Some, None, find, fold, length, map, replicate, slice_get, slice_set}
use Rattle.std.specs.List.{enumerate_from, position}
use Rattle.std.specs.Option.{option_and_then, option_map_or}
use Rattle.std.specs.Str.{bytes_eq}
use Rattle.bosh_base.specs.declared.entry.TaskOpen.{TaskOpen}
use Rattle.bosh_base.specs.declared.goal.Goal.{Goal}
use Rattle.bosh_base.specs.declared.goal.GroupPlan.{GroupPlan}
use Rattle.bosh_base.specs.declared.inst.Inst.{Inst}
use Rattle.bosh_base.specs.declared.task.TaskKind.{TaskKind}
use Rattle.bosh_base.specs.declared.task.TaskKind.TheVariants as kinds
use Rattle.bosh_progress.specs.declared.rolling.Rolling.{Rolling}
use Rattle.bosh_work.specs.declared.groups.GroupWork.{GroupWork}

-- ---- members

-- the first of the changed instances of a group
abbrev pub first_inst : List Inst → GroupWork → Option Inst
first_inst changed group = option_and_then (λ at. slice_get changed at) (slice_get group.places 0)

-- an instance is of this group
abbrev pub is_group_of : List Inst → Inst → GroupWork → Bool
is_group_of changed inst group = option_map_or (λ other. bytes_eq other.group inst.group) (first_inst changed group) false

-- no update has begun
abbrev pub no_roll : Rolling
no_roll = record { canaries = 0; limit = 0; waiting = []; busy = []; idle = [] }

abbrev pub new_group : ℕ → GroupWork
new_group place = record { stage = 0; places = place ∷ []; roll = no_roll }

-- one more place in a group
abbrev pub with_place : List GroupWork → ℕ → ℕ → List GroupWork
with_place groups at place =
    option_map_or (λ group. slice_set groups at (record group { places = group.places ++ place ∷ [] })) (slice_get groups at) groups

-- a changed instance, by its place, in its group
abbrev pub with_member : List Inst → List GroupWork → ℕ × Inst → List GroupWork
with_member changed groups member =
    option_map_or (λ at. with_place groups at member.0) (position (is_group_of changed member.1) groups)
    (groups ++ new_group member.0 ∷ [])

-- ---- how they are updated

-- the plan of the group of an instance in a goal
abbrev pub plan_in : Goal → Inst → Option GroupPlan
plan_in goal inst = find (λ plan. bytes_eq plan.name inst.group) goal.groups

-- .. of a group
abbrev pub plan_for : TaskOpen → GroupWork → Option GroupPlan
plan_for opening group =
    option_and_then (λ inst. option_and_then (λ goal. plan_in goal inst) opening.goal) (first_inst opening.changed group)

abbrev pub stage_of : Option GroupPlan → ℕ
stage_of plan = option_map_or (λ it. it.stage) plan 0

-- as many instances, none of which has begun
abbrev pub all_waiting : ℕ → ℕ → ℕ → Rolling
all_waiting canaries limit len = record {
  canaries = canaries;
  limit = limit;
  waiting = replicate len true;
  busy = replicate len false;
  idle = replicate len false;
}

-- a task of one instance has no canaries and a limit of 1
abbrev pub rolling_by : TaskKind → Option GroupPlan → ℕ → Rolling
rolling_by (kinds.Recreate inst) plan len = all_waiting 0 1 len
rolling_by (kinds.Start inst) plan len = all_waiting 0 1 len
rolling_by (kinds.Stop inst) plan len = all_waiting 0 1 len
rolling_by (kinds.Resolve inst) plan len = all_waiting 0 1 len
rolling_by kind (Some plan) len = all_waiting plan.canaries plan.limit len
rolling_by kind None len = all_waiting 0 0 len

abbrev pub planned : TaskOpen → GroupWork → GroupWork
planned opening group = record {
  stage = stage_of (plan_for opening group);
  places = group.places;
  roll = rolling_by opening.kind (plan_for opening group) (length group.places);
}

-- the groups of a task, in the order of the first changed instance of each
abbrev pub groups_by : TaskOpen → List GroupWork
groups_by opening =
    map (planned opening) (fold (with_member opening.changed) [] (enumerate_from 0 opening.changed))
