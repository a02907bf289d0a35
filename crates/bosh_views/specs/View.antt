-- What the goal of a deployment depends on beside its manifest, as the records have it.
use Rattle.std.specs.Prelude.{ℕ, Bool, true, false, ◌+◌, ◌&&◌, ◌||◌, List, [], ◌∷◌, ◌++◌, Option, None, Some, filter}
use Rattle.std.specs.Prelude.{is_some, map, min, option_map, if◌then◌else◌}
use Rattle.std.specs.List.{filter_map, flat_map, list_any}
use Rattle.std.specs.Option.{option_and_then, option_map_or}
use Rattle.std.specs.Str.{bytes_eq}
use Rattle.bosh_base.specs.contracts.link.JointPartialEq.TheImpl as joint_test
use Rattle.bosh_base.specs.declared.addr.NetAddr.{NetAddr}
use Rattle.bosh_base.specs.declared.goal.Goal.{Goal}
use Rattle.bosh_base.specs.declared.goal.GoalRow.{GoalRow}
use Rattle.bosh_base.specs.declared.inst.Inst.{Inst}
use Rattle.bosh_base.specs.declared.offer.DepOffers.{DepOffers}
use Rattle.bosh_base.specs.declared.make.Make.{Make}
use Rattle.bosh_base.specs.declared.offer.Offer.{Offer}
use Rattle.bosh_base.specs.declared.owner.Owner.{Owner}
use Rattle.bosh_base.specs.declared.owner.Owner.TheVariants as owners
use Rattle.bosh_base.specs.declared.row.Row.{Row}
use Rattle.bosh_base.specs.declared.snapshot.DepRow.{DepRow}
use Rattle.bosh_base.specs.declared.task.TaskRow.{TaskRow}
use Rattle.bosh_base.specs.declared.view.Held.{Held}
use Rattle.bosh_base.specs.declared.view.View.{View}
use Rattle.bosh_rows.specs.Standing.{same_truth}
use Rattle.bosh_records.specs.Keys.{compiled_of}
use Rattle.bosh_records.specs.Readers.{goal_of}
use Rattle.bosh_records.specs.Table.{things}
use Rattle.bosh_records.specs.declared.instances.Instance.{Instance}
use Rattle.bosh_records.specs.declared.machines.Machine.{Machine}
use Rattle.bosh_work.specs.declared.part.MachineName.{MachineName}
use Rattle.bosh_records.specs.declared.records.Records.{Records}
use Rattle.bosh_records.specs.declared.records.Since.{Since}

-- the recorded rows of a deployment, in the order of the instances
abbrev pub rows_of : List ℕ → List (Inst × Instance) → List Row
rows_of dep entries = filter_map (λ entry. if bytes_eq entry.0.dep dep then entry.1.row else None) entries

-- ---- addresses

-- addresses, each held by an owner
abbrev pub held_in : Owner → List NetAddr → List Held
held_in owner nets = map (λ it. record { owner = owner; net = it.net; addr = it.addr }) nets

-- those of a make
abbrev pub held_of : Owner → Make → List Held
held_of owner make = held_in owner make.nets

abbrev pub make_of : Option Row → Option Make
make_of row = option_and_then (λ it. it.make) row

-- those of what is recorded of an instance, where it is of another deployment
abbrev pub held_by_row : List ℕ → Inst × Instance → List Held
held_by_row dep entry =
    if bytes_eq entry.0.dep dep then []
    else option_map_or (held_of (owners.Instance entry.0)) (make_of entry.1.row) []

abbrev pub held_by_rows : List ℕ → List (Inst × Instance) → List Held
held_by_rows dep entries = flat_map (held_by_row dep) entries

abbrev pub held_by_wants : List GoalRow → List Held
held_by_wants wants = flat_map (λ want. held_of (owners.Instance want.inst) want.make) wants

-- those of the rows of a goal
abbrev pub held_by_goal : Goal → List Held
held_by_goal goal = held_by_wants goal.rows

-- what is recorded of another deployment
abbrev pub other_of : List ℕ → Option DepRow → Option DepRow
other_of dep row = option_and_then (λ it. if bytes_eq it.dep dep then None else Some it) row

-- those of the current goals of other deployments
abbrev pub held_by_goals : List ℕ → List (Since × Option DepRow) → List Held
held_by_goals dep places =
    flat_map (λ place. option_map_or (λ row. held_by_goal row.goal) (other_of dep place.1) []) places

-- those of a compile machine, where it is of the deployment, or where it is of another
abbrev pub held_by_machine : List ℕ → Bool → MachineName → Machine → List Held
held_by_machine dep own name it =
    if same_truth (bytes_eq it.row.dep dep) own then held_of (owners.Compile name.task name.slot) it.row.make else []

abbrev pub held_by_machines : List ℕ → Bool → List (MachineName × Option Machine) → List Held
held_by_machines dep own places =
    flat_map (λ place. option_map_or (held_by_machine dep own place.0) place.1 []) places

-- those of slots of a task, from one slot on
abbrev pub held_by_slots : ℕ → ℕ → List Make → List Held
held_by_slots task slot [] = []
held_by_slots task slot (make ∷ makes) =
    held_of (owners.Compile task slot) make ++ held_by_slots task (min (slot + 1) 4294967295) makes

-- the goal of a task of a deployment, with its number, where the task is open and the deployment is another
abbrev pub goal_elsewhere : Records → List ℕ → TaskRow → List ℕ → Option (ℕ × Goal)
goal_elsewhere records dep it other =
    if is_some it.end || bytes_eq other dep then None
    else option_map (λ goal. (it.task, goal)) (goal_of records other)

abbrev pub open_goal : Records → List ℕ → Option TaskRow → Option (ℕ × Goal)
open_goal records dep row = option_and_then (λ it. option_and_then (goal_elsewhere records dep it) it.dep) row

-- those of the slots of an open task of another deployment
abbrev pub held_by_task : Records → List ℕ → Option TaskRow → List Held
held_by_task records dep row =
    option_map_or (λ it. held_by_slots it.0 0 it.1.slots) (open_goal records dep row) []

abbrev pub held_by_tasks : Records → List ℕ → List (ℕ × Option TaskRow) → List Held
held_by_tasks records dep places = flat_map (λ place. held_by_task records dep place.1) places

-- those that others hold
abbrev pub taken_of : Records → List ℕ → List Held
taken_of records dep =
    held_by_rows dep records.instances.by_inst.entries
    ++ held_by_goals dep records.deployments.places.entries
    ++ held_by_machines dep false records.machines.places.entries
    ++ held_by_tasks records dep records.tasks.places.entries

-- ---- offers

-- a goal offers the link of an offer still
abbrev pub is_offered : List Offer → Offer → Bool
is_offered offers offer =
    list_any (λ it. joint_test.ghosts.eq it.joint offer.joint && bytes_eq it.kind offer.kind) offers

-- what others may take of a deployment: what its last done deploy offers, as far as its current goal still does
abbrev pub known_offers : DepRow → DepOffers
known_offers row = record { dep = row.dep; offers = filter (λ offer. is_offered row.goal.offers offer) row.shared }

abbrev pub known_of : List (Since × Option DepRow) → List DepOffers
known_of places = map known_offers (things places)

abbrev pub view_of : Records → List ℕ → View
view_of records dep = record {
  goal = goal_of records dep;
  rows = rows_of dep records.instances.by_inst.entries;
  taken = taken_of records dep;
  leftover = held_by_machines dep true records.machines.places.entries;
  compiled = compiled_of records.keys.by_key.entries;
  last_call = records.last_call;
  known = known_of records.deployments.places.entries;
}
