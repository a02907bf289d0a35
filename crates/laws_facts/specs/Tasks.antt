-- Facts on one task: what it lists, how far its instances have come, and what it has heard of their machines.
use Rattle.std.specs.Prelude.{ℕ, Bool, true, false, eqb, nat_le, not, ◌&&◌, ◌||◌, ◌==◌, Some, is_some, List, [], ◌∷◌}
use Rattle.std.specs.List.{list_all}
use Rattle.std.specs.Option.{option_eq}
use Rattle.std.specs.Str.{bytes_eq}
use Rattle.bosh_base.specs.Cloud.{disks_created, is_disk_there}
use Rattle.bosh_base.specs.declared.goal.Goal.{Goal}
use Rattle.bosh_base.specs.declared.inst.Inst.{Inst}
use Rattle.bosh_base.specs.declared.row.Row.{Row}
use Rattle.bosh_base.specs.declared.task.TaskKind.{TaskKind}
use Rattle.bosh_base.specs.declared.task.TaskKind.TheVariants.{DeleteDeployment}
use Rattle.laws_effects.specs.Orderly.{is_created}
use Rattle.laws_row_facts.specs.Words.{implies, where_any}
use Rattle.bosh_history.specs.Deletions.{is_clean_up}
use Rattle.bosh_history.specs.Exact.{asks}
use Rattle.bosh_history.specs.Goals.{canaries_first, is_in, is_waiting, named_instance}
use Rattle.bosh_history.specs.Held.{is_open}
use Rattle.bosh_history.specs.Items.{is_finished, is_to_go, is_to_ping}
use Rattle.bosh_history.specs.Known.{Known, Task, want_in}
use Rattle.bosh_history.specs.Moments.{Moment}
use Rattle.bosh_history.specs.Rolling.{is_within_limit}
use Rattle.bosh_history.specs.Sound.{has_no_address, is_empty_goal}
use Rattle.bosh_history.specs.Words.{is_among, holds}
use Rattle.bosh_roll.specs.Upd.{is_busy}
use Rattle.bosh_rows.specs.SoundSnapshot.{are_distinct}
use Rattle.bosh_rows.specs.Disks.{is_detached}
use Rattle.bosh_rows.specs.Same.{same_inst}
use Rattle.bosh_rows.specs.Standing.{is_empty, stands}
use Rattle.bosh_rows.specs.Tied.{number_of}

-- ---- no two open tasks have one lock

-- the task was opened, and has no end
abbrev pub is_open_task : Known → ℕ → Bool
is_open_task k t = nat_le 1 t && (nat_le t k.tasks && is_open k t)

-- the two are not open with one lock
abbrev pub has_another_lock : Known → ℕ → ℕ → Bool
has_another_lock k t other =
    implies (is_open_task k t && (is_open_task k other && option_eq bytes_eq (k.task t).dep (k.task other).dep))
    (t == other)

-- ---- what it lists

-- a task of no deployment lists disks that were orphaned as it opened, and nothing else
abbrev pub lists_disks : Task → Bool
lists_disks t =
    not (is_some t.dep)
    && (not (is_some t.goal)
    && (is_empty t.changed
    && (is_empty t.obsolete && (is_empty t.to_ping && list_all (λ d. is_among eqb d t.orphans) t.disks))))

-- the instance is of the deployment
abbrev pub is_of : List ℕ → Inst → Bool
is_of dep i = bytes_eq i.dep dep

-- it is the only one of the list
abbrev pub is_alone : Inst → List Inst → Bool
is_alone i (other ∷ []) = same_inst i other
is_alone i instances = false

-- the instance is of the goal, and the only one that changes
abbrev pub are_those_of_one : Inst → Task → Bool
are_those_of_one i t = is_in t.goal i && (is_alone i t.changed && is_empty t.obsolete)

-- a task of one instance changes that one alone, and the goal of a deletion is empty
abbrev pub are_of_kind : Task → TaskKind → Bool
are_of_kind t DeleteDeployment = holds is_empty_goal t.goal
are_of_kind t kind = where_any (λ i. are_those_of_one i t) (named_instance kind)

-- those that change are of the goal, those that go are of the deployment and not of the goal, and those that are asked
-- are of the deployment; none stands twice
abbrev pub lists_instances : Task → Bool
lists_instances t =
    holds (λ dep. holds (λ goal. bytes_eq goal.dep dep) t.goal) t.dep
    && (list_all (is_in t.goal) t.changed
    && (where_any (λ dep. list_all (λ i. is_of dep i && not (is_in t.goal i)) t.obsolete) t.dep
    && (where_any (λ dep. list_all (is_of dep) t.to_ping) t.dep
    && (are_distinct same_inst t.changed
    && (are_distinct same_inst t.obsolete
    && (are_distinct same_inst t.to_ping && (is_empty t.disks && are_of_kind t t.kind)))))))

-- by its kind
abbrev pub lists_well : Task → Bool
lists_well t = by_kind (is_clean_up t.kind)
  where
    by_kind : Bool → Bool
    by_kind true = lists_disks t
    by_kind false = lists_instances t

-- ---- a recorded row of the deployment is of the goal or is to go, where the task is of no single instance

-- the instance is recorded
abbrev pub is_recorded : Known → Inst → Bool
is_recorded k i = is_among same_inst i k.instances

-- it has its place in the task
abbrev pub has_place : Known → Task → Inst → Bool
has_place k t i =
    implies (not (is_some (named_instance t.kind)) && (is_recorded k i && holds (λ dep. is_of dep i) t.dep))
    (is_in t.goal i || is_to_go t i)

-- ---- an instance that is through stands

-- its update is done, or it does not change, where the task is of no single instance
abbrev pub is_through : Task → Inst → Bool
is_through t i =
    is_finished (t.upd i)
    || (not (is_some (named_instance t.kind)) && (is_in t.goal i && not (is_among same_inst i t.changed)))

-- it stands where it is through
abbrev pub stands_where_through : Known → Task → Inst → Bool
stands_where_through k t i = implies (is_through t i) (stands (want_in t.goal i) (k.row i))

-- ---- only instances that change are updated

-- its update has not begun, or it changes
abbrev pub is_update_listed : Task → Inst → Bool
is_update_listed t i = is_waiting (t.upd i) || is_among same_inst i t.changed

-- ---- an instance whose update began is a canary, or all canaries are done

-- its update is in turn
abbrev pub is_in_turn : Task → Inst → Bool
is_in_turn t i = implies (is_busy (t.upd i)) (canaries_first t i)

-- ---- a row that is to be asked has a machine, is not lost and not through

-- it can be asked where it is to be asked
abbrev pub can_be_asked : Known → Task → Inst → Bool
can_be_asked k t i =
    implies (is_to_ping t i) (is_some (k.row i).vm && (not (k.row i).lost && not (is_through t i)))

-- ---- each group of an open task is within its limit

-- its group is within its limit
abbrev pub is_within_limits : Known → ℕ → Inst → Bool
is_within_limits k t i = implies (is_open_task k t && is_among same_inst i (k.task t).changed)
    (is_within_limit (k.task t) i)

-- ---- a listed disk is orphaned, or is not there any more

-- the disk is one to delete, or deleted
abbrev pub is_disk_to_delete : Moment → Task → ℕ → Bool
is_disk_to_delete m t d =
    implies (is_among eqb d t.disks)
    (is_some (m.known.orphan d)
    || (is_created (disks_created m.effects) d && not (is_disk_there m.effects d)))

-- ---- unless the one instance is to be detached, no address of it is that of a row that is not of the goal

-- nobody else of the deployment has an address of the instance
abbrev pub has_its_addresses : Known → Task → Inst → Bool
has_its_addresses k t i = where_any by_goal t.goal
  where
    by_goal : Goal → Bool
    by_goal goal =
        where_any (λ want. is_detached want.state || has_no_address k goal want) (want_in (Some goal) i)

-- .. of the one instance of the task
abbrev pub is_addressed : Known → Task → Bool
is_addressed k t = where_any (has_its_addresses k t) (named_instance t.kind)

-- ---- what the task has heard of the machines that it asks

-- the task has heard of the machine
abbrev pub has_heard : Moment → ℕ → ℕ → Bool
has_heard m t v = m.heard t v

-- the machine was lost before the task heard of it
abbrev pub was_lost_early : Moment → ℕ → ℕ → Bool
was_lost_early m t v = m.early t v

-- the machine of the row was not lost before the task heard of it, or has no spec yet, so that it is to be applied to
abbrev pub is_known_of : Moment → ℕ → Row → ℕ → Bool
is_known_of m t row v = has_heard m t v && (not (was_lost_early m t v) || not (is_some row.spec))

-- the row is lost, or the task has heard of its machine in time
abbrev pub is_row_heard_of : Moment → ℕ → Row → Bool
is_row_heard_of m t row = row.lost || list_all (is_known_of m t row) (number_of row.vm)

-- the task asks the machines of those of its goal, and no call of it failed
abbrev pub has_to_hear : Task → Inst → Bool
has_to_hear t i = asks t.kind i && (is_in t.goal i && not (is_some t.failed))

-- .. of the recorded row, unless it is to be asked
abbrev pub is_heard_of : Moment → ℕ → Inst → Bool
is_heard_of m t i =
    implies (has_to_hear (m.known.task t) i)
    (is_to_ping (m.known.task t) i || is_row_heard_of m t (m.known.row i))
