-- Facts of all tasks, from which those on one follow that claims ask for.
use Rattle.std.specs.Prelude.{◌≡◌, ℕ, true, is_some, Some}
use Rattle.std.specs.List.{list_all}
use Rattle.bosh_base.specs.declared.goal.Goal.{Goal}
use Rattle.bosh_base.specs.declared.inst.Inst.{Inst}
use Rattle.bosh_history.specs.Goals.{is_in}
use Rattle.bosh_history.specs.Items.{is_item}
use Rattle.bosh_history.specs.Known.{Slot, SlotName, Task}
use Rattle.bosh_history.specs.Moments.{Moment, OpenCall}
use Rattle.bosh_history.specs.Sound.{has_plan}
use Rattle.bosh_history.specs.Words.{is_among}
use Rattle.bosh_rows.specs.Same.{same_inst}
use Rattle.laws_facts.specs.Owners.{works}
use Rattle.laws_items.proofs.ListedLemmas.{NamesItsOwn}
use Rattle.laws_items.specs.Lists.{IsIn}

-- what the open calls of all tasks are of
pub record AreCallsOwn (m : Moment) : Type 0 where
  -- the task of an open call works
  pub tasks_work : (n : ℕ) (call : OpenCall) → m.calls n ≡ Some call → works m call.begin.task ≡ true
  -- its owner is an item of the task's present phase
  pub owners_are_items : (n : ℕ) (call : OpenCall) → m.calls n ≡ Some call →
      is_item m.known call.begin.task call.begin.owner ≡ true
  -- no two tasks that work have one lock
  pub locks_differ : (t u : ℕ) → works m t ≡ true → works m u ≡ true →
      (m.known.task t).dep ≡ (m.known.task u).dep → t ≡ u
  -- each names instances and disks of its own
  pub tasks_name_their_own : (t : ℕ) → works m t ≡ true → NamesItsOwn (m.known.task t)
  -- a recorded compile machine is listed
  pub machines_are_listed : (name : SlotName) → is_some (m.known.slot name.task name.slot) ≡ true →
      IsIn name m.known.machines
  -- .. and is of the deployment of its task
  pub machines_are_own : (t s : ℕ) (it : Slot) → m.known.slot t s ≡ Some it → (m.known.task t).dep ≡ Some it.dep

-- each changed instance is one of a row of the goal, whose group has one plan, with room for one update
pub record HasPlans (goal : Goal) (t : Task) : Type 0 where
  pub goal_is : t.goal ≡ Some goal
  pub rows_have_plans : list_all (has_plan goal) goal.rows ≡ true
  pub changed_are_rows : (i : Inst) → is_among same_inst i t.changed ≡ true → is_in (Some goal) i ≡ true
