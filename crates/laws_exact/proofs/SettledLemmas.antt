-- A deployment of which nothing is left to do: its goal is the current one, each row of the goal stands, and no other
-- row of it is recorded.
use Rattle.std.proofs.Common.{◌≡◌, ℕ, true, false, ◌||◌, not, List, Some, None}
use Rattle.std.specs.List.{list_any}
use Rattle.bosh_base.specs.declared.goal.Goal.{Goal}
use Rattle.bosh_base.specs.declared.goal.GoalRow.{GoalRow}
use Rattle.bosh_base.specs.declared.inst.Inst.{Inst}
use Rattle.bosh_history.specs.Exact.{asks, is_spoiled_late}
use Rattle.bosh_history.specs.Known.{Known, want_in}
use Rattle.bosh_history.specs.Moments.{Moment}
use Rattle.bosh_history.specs.Items.{is_in_deployment}
use Rattle.bosh_rows.specs.After.{bare}
use Rattle.laws_items.specs.Lists.{IsIn}
use Rattle.laws_exact.proofs.StandLemmas.{Stands}

-- an instance of the deployment is of the goal, and stands, or nothing of it is recorded
pub data IsSettled (k : Known) (goal : Goal) (i : Inst) : Type 0 where
  wanted : (want : GoalRow) → IsIn want goal.rows → i ≡ want.inst → want_in (Some goal) i ≡ Some want
      → Stands want (k.row want.inst) → IsSettled k goal i
  other : want_in (Some goal) i ≡ None → k.row i ≡ bare i → IsSettled k goal i

pub record IsOver (m : Moment) (t : ℕ) (dep : List ℕ) (goal : Goal) : Type 0 where
  pub dep_is : (m.known.task t).dep ≡ Some dep
  pub goal_is : (m.known.task t).goal ≡ Some goal
  pub current : m.known.goal dep ≡ Some goal
  pub settled : (i : Inst) → i.dep ≡ dep → IsSettled m.known goal i
  pub stands : (want : GoalRow) → IsIn want goal.rows → Stands want (m.known.row want.inst)
  pub heard : (want : GoalRow) → IsIn want goal.rows →
      (not (asks (m.known.task t).kind want.inst) || is_spoiled_late m t (m.known.row want.inst)) ≡ true
  pub swept : list_any (is_in_deployment m.known (m.known.task t).dep) m.known.machines ≡ false

-- .. or of one instance of it
pub record IsOneOver (m : Moment) (t : ℕ) (i : Inst) (goal : Goal) : Type 0 where
  pub want : GoalRow
  pub among : IsIn want goal.rows
  pub same : i ≡ want.inst
  pub found : want_in (Some goal) i ≡ Some want
  pub stands : Stands want (m.known.row want.inst)
  pub heard : (not (asks (m.known.task t).kind want.inst) || is_spoiled_late m t (m.known.row want.inst)) ≡ true
  pub goal_is : (m.known.task t).goal ≡ Some goal
