-- The facts that rest on entries and on open calls alone: each permitted move keeps each of them, where all of them held
-- before it. Of effects they say which numbers those have, for whom machines were made, and which losses a task had heard
-- of; nothing of what is there now.
use Rattle.std.specs.Prelude.{◌≡◌, ℕ, true, Some, List}
use Rattle.bosh_base.specs.declared.goal.Goal.{Goal}
use Rattle.bosh_base.specs.declared.inst.Inst.{Inst}
use Rattle.bosh_history.specs.Moments.{Moment, OpenCall}
use Rattle.bosh_rows.specs.CallOf.{has_its_machine}
use Rattle.laws_facts.specs.Addresses.{AddressFacts}
use Rattle.laws_facts.specs.CallFacts.{CallFacts}
use Rattle.laws_facts.specs.CompileMachines.{SlotWorkFacts}
use Rattle.laws_facts.specs.Goals.{GoalFacts}
use Rattle.laws_facts.specs.Lists.{ListFacts}
use Rattle.laws_facts.specs.Makers.{is_machine_of_deployment}
use Rattle.laws_facts.specs.Numbers.{NumberFacts}
use Rattle.laws_facts.specs.TaskFacts.{TaskFacts}
use Rattle.laws_row_facts.specs.Words.{where_any}
use Rattle.laws_slots.specs.Slots.{has_shape}

-- the facts on what is known
pub record KnownFacts (m : Moment) : Type 0 where
  -- what is listed is what is recorded
  pub lists : ListFacts m
  -- the numbers of calls and tasks
  pub numbers : NumberFacts m
  -- each machine was made for an instance, or for a compile machine of a task that was opened, in its deployment
  pub makers : (v : ℕ) → is_machine_of_deployment m v ≡ true
  -- a row that is lost, or in doubt of another call than the creation of a machine, has a machine
  pub machines : (i : Inst) → has_its_machine (m.known.row i) ≡ true
  -- the machine and the call in doubt of each compile machine are such as it can come to
  pub shapes : (t s : ℕ) → where_any has_shape (m.known.slot t s) ≡ true
  -- what tasks make of compile machines
  pub slots_work : (t s : ℕ) → SlotWorkFacts m t s
  -- each open call
  pub calls : (n : ℕ) (call : OpenCall) → m.calls n ≡ Some call → CallFacts m n call
  -- each task
  pub tasks : (t : ℕ) → TaskFacts m t
  -- each current goal
  pub goals : (dep : List ℕ) (goal : Goal) → m.known.goal dep ≡ Some goal → GoalFacts m.known dep goal
  -- who holds which address
  pub addresses : AddressFacts m
