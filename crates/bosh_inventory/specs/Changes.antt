-- Which changes keep the tables those of what was done.
use Rattle.std.specs.Prelude.{◌≡◌, ℕ, true, Some, List, [], ◌∷◌, ◌++◌}
use Rattle.bosh_agent.specs.Agent.{can_act, vm_of}
use Rattle.bosh_base.specs.Call.{method_of}
use Rattle.bosh_base.specs.Cloud.{machine_of}
use Rattle.bosh_base.specs.Method.{is_agents}
use Rattle.bosh_base.specs.declared.call.Call.{Call}
use Rattle.bosh_base.specs.declared.entry.Effect as effect
use Rattle.bosh_base.specs.declared.entry.Entry.{Entry}
use Rattle.bosh_base.specs.declared.entry.Entry.TheVariants.{Effect}
use Rattle.bosh_base.specs.declared.machine.Machine.{Machine}
use Rattle.bosh_registers.specs.Changes.{tables_after, IsFitting}
use Rattle.bosh_registers.specs.declared.change.Change.{Change}
use Rattle.bosh_registers.specs.declared.tables.Tables.{Tables}
use Rattle.bosh_inventory.specs.Rows.{AreTables}

-- the tables are those of what was done
abbrev pub AreTablesOf : List Entry → Tables → Type 0
AreTablesOf entries tables = AreTables entries tables.vms tables.disks tables.holders

-- the tables stay those of what was done, where this is done and they change so
pub record Leads (before : List Entry) (entry : Entry) (change : Change) : Type 0 where
  pub fits : (tables : Tables) → AreTablesOf before tables → IsFitting change tables
  pub keeps : (tables : Tables) → AreTablesOf before tables → AreTablesOf (before ++ entry ∷ []) (tables_after tables change)

-- the same of the effect of a call, whoever makes it
abbrev pub LeadsBy : List Entry → Call → Change → Type 0
LeadsBy before call change = (e : effect.Effect) → e.call ≡ call → Leads before (Effect e) change

-- a call to an agent that has its effect: its agent can do it
pub record IsActing (before : List Entry) (call : Call) : Type 0 where
  pub vm : ℕ
  pub names : vm_of call ≡ Some vm
  pub machine : Machine
  pub found : machine_of before vm ≡ Some machine
  pub agents : is_agents (method_of call) ≡ true
  pub can : can_act machine call ≡ true
