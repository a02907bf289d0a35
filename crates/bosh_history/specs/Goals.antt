-- What a task changes and deletes, which of its instances are canaries, and when an update may begin
-- (bosh.io, "Deployment manifest", "update").
use Rattle.std.specs.Prelude.{ℕ, Bool, true, false, not, nat_lt, ◌&&◌, ◌||◌, Option, Some, None, is_some, List, [], ◌∷◌, map, filter, take, count_by}
use Rattle.std.specs.List.{list_all}
use Rattle.std.specs.Str.{bytes_eq}
use Rattle.bosh_base.specs.declared.goal.Goal.{Goal}
use Rattle.bosh_base.specs.declared.goal.GoalRow.{GoalRow}
use Rattle.bosh_base.specs.declared.goal.GroupPlan.{GroupPlan}
use Rattle.bosh_base.specs.declared.inst.Inst.{Inst}
use Rattle.bosh_base.specs.declared.task.TaskKind.{TaskKind}
use Rattle.bosh_base.specs.declared.task.TaskKind.TheVariants.{Deploy, Recreate, Start, Stop, DeleteDeployment, Fix, Resolve}
use Rattle.bosh_history.specs.Items.{is_finished}
use Rattle.bosh_history.specs.Known.{Known, Task, want_in, plan_in}
use Rattle.bosh_history.specs.Words.{is_among}
use Rattle.bosh_roll.specs.Upd.{is_busy}
use Rattle.bosh_roll.specs.declared.upd.Upd.{Upd}
use Rattle.bosh_roll.specs.declared.upd.Upd.TheVariants.{Todo}
use Rattle.bosh_rows.specs.Same.{same_inst}
use Rattle.bosh_rows.specs.Standing.{stands}

-- the instance that a task of one instance names
abbrev pub named_instance : TaskKind → Option Inst
named_instance (Recreate i) = Some i
named_instance (Start i) = Some i
named_instance (Stop i) = Some i
named_instance (Resolve i) = Some i
named_instance kind = None

abbrev pub inst_of : GoalRow → Inst
inst_of want = want.inst

abbrev pub instances_of : Option Goal → List Inst
instances_of (Some goal) = map inst_of goal.rows
instances_of None = []

abbrev pub is_in : Option Goal → Inst → Bool
is_in goal i = is_some (want_in goal i)

-- ---- what a task changes

abbrev pub does_not_stand : Known → GoalRow → Bool
does_not_stand k want = not (stands (Some want) (k.row want.inst))

abbrev pub rows_of : Option Goal → List GoalRow
rows_of (Some goal) = goal.rows
rows_of None = []

-- in the order of the goal: those that do not stand; all, where the machines are asked first; the named one alone
abbrev pub to_change : Known → TaskKind → Option Goal → List Inst
to_change k (Recreate i) goal = i ∷ []
to_change k (Start i) goal = i ∷ []
to_change k (Stop i) goal = i ∷ []
to_change k (Resolve i) goal = i ∷ []
to_change k Fix goal = instances_of goal
to_change k kind goal = map inst_of (filter (does_not_stand k) (rows_of goal))

-- the recorded instances of the deployment that the goal has not; a task of one instance deletes none
abbrev pub out_of_goal : Known → List ℕ → Option Goal → List Inst
out_of_goal k dep goal = filter (λ i. bytes_eq i.dep dep && not (is_in goal i)) k.instances

abbrev pub to_delete : Known → TaskKind → List ℕ → Option Goal → List Inst
to_delete k Deploy dep goal = out_of_goal k dep goal
to_delete k Fix dep goal = out_of_goal k dep goal
to_delete k DeleteDeployment dep goal = out_of_goal k dep goal
to_delete k kind dep goal = []

-- ---- updates

-- the update of an instance has not begun
abbrev pub is_waiting : Upd → Bool
is_waiting Todo = true
is_waiting upd = false

-- the changed instances of a group, in order
abbrev pub changed_in : Task → List ℕ → List Inst
changed_in t group = filter (λ i. bytes_eq i.group group) t.changed

-- A task of one instance has no canaries and a limit of 1.
abbrev pub canaries_of : Task → Option GroupPlan → ℕ
canaries_of t plan = by_kind (named_instance t.kind) plan
  where
    by_kind : Option Inst → Option GroupPlan → ℕ
    by_kind None (Some it) = it.canaries
    by_kind name plan = 0

abbrev pub limit_of : Task → Option GroupPlan → ℕ
limit_of t plan = by_kind (named_instance t.kind) plan
  where
    by_kind : Option Inst → Option GroupPlan → ℕ
    by_kind None (Some it) = it.limit
    by_kind None None = 0
    by_kind (Some i) plan = 1

-- the first changed instances of a group
abbrev pub canaries : Task → List ℕ → ℕ → List Inst
canaries t group count = take count (changed_in t group)

abbrev pub canaries_for : Task → Inst → List Inst
canaries_for t i = canaries t i.group (canaries_of t (plan_in t.goal i))

-- the instance is a canary, or every canary is done
abbrev pub canaries_first : Task → Inst → Bool
canaries_first t i =
    is_among same_inst i (canaries_for t i) || list_all (λ it. is_finished (t.upd it)) (canaries_for t i)

-- how many updates of a group began and are not done
abbrev pub in_flight : Task → List ℕ → ℕ
in_flight t group = count_by (λ i. is_busy (t.upd i)) (changed_in t group)

abbrev pub has_room : Task → Inst → Bool
has_room t i = nat_lt (in_flight t i.group) (limit_of t (plan_in t.goal i))

-- the update of an instance may begin beside those of its group
abbrev pub may_begin : Task → Inst → Bool
may_begin t i = not (is_some t.failed) && (has_room t i && canaries_first t i)
