-- What the law on tasks that are done uses of all facts at a moment.
use Rattle.std.specs.Prelude.{◌≡◌, ℕ, Bool, true, false, is_some, List, Some}
use Rattle.bosh_base.specs.declared.goal.Goal.{Goal}
use Rattle.bosh_base.specs.declared.inst.Inst.{Inst}
use Rattle.bosh_base.specs.declared.task.TaskKind.{TaskKind}
use Rattle.bosh_base.specs.declared.task.TaskKind.TheVariants as kinds
use Rattle.bosh_history.specs.Moments.{Moment}
use Rattle.bosh_history.specs.Words.{is_among}
use Rattle.bosh_rows.specs.After.{bare}
use Rattle.bosh_rows.specs.Same.{same_inst}
use Rattle.laws_facts.specs.CallFacts.{named}
use Rattle.laws_facts.specs.Disks.{is_recorded_once}
use Rattle.laws_facts.specs.Goals.{has_sound_rows}
use Rattle.laws_facts.specs.Lists.{is_machine_listed}
use Rattle.laws_facts.specs.Makers.{is_machine_of_deployment}
use Rattle.laws_facts.specs.Numbers.{is_of_its_task}
use Rattle.laws_facts.specs.Tasks.{has_place, is_disk_to_delete, is_heard_of, lists_well, stands_where_through}
use Rattle.laws_row_facts.specs.Rows.{RowFacts}
use Rattle.laws_slots.specs.Slots.{is_slot_tied}

-- what is used of what is known and of what was done
pub record IsLeftWell (m : Moment) : Type 0 where
  pub own_row : (i : Inst) → (m.known.row i).inst ≡ i
  pub bare : (i : Inst) → is_among same_inst i m.known.instances ≡ false → m.known.row i ≡ bare i
  pub machine_listed : (t s : ℕ) → is_machine_listed m.known t s ≡ true
  pub of_tasks : (t s : ℕ) → is_of_its_task m.known t s ≡ true
  pub rows : (i : Inst) → RowFacts m.effects (m.known.row i)
  pub slots_tied : (t s : ℕ) → is_slot_tied m.effects (named t s) (m.known.slot t s) ≡ true
  pub once : (d : ℕ) → is_recorded_once m.effects m.known.row (is_some (m.known.orphan d)) d ≡ true
  pub sound_rows : (dep : List ℕ) (goal : Goal) → m.known.goal dep ≡ Some goal → has_sound_rows goal ≡ true
  pub makers : (v : ℕ) → is_machine_of_deployment m v ≡ true

-- .. and of the task
pub record WorksWell (m : Moment) (t : ℕ) : Type 0 where
  pub current : (dep : List ℕ) → (m.known.task t).dep ≡ Some dep → m.known.goal dep ≡ (m.known.task t).goal
  pub lists_well : lists_well (m.known.task t) ≡ true
  pub has_place : (i : Inst) → has_place m.known (m.known.task t) i ≡ true
  pub stands : (i : Inst) → stands_where_through m.known (m.known.task t) i ≡ true
  pub to_delete : (d : ℕ) → is_disk_to_delete m (m.known.task t) d ≡ true
  pub is_heard_of : (i : Inst) → is_heard_of m t i ≡ true

-- a task that leaves a deployment whole as its goal says
abbrev pub is_whole : TaskKind → Bool
is_whole kinds.Deploy = true
is_whole kinds.Fix = true
is_whole kinds.DeleteDeployment = true
is_whole kind = false
