-- What is recorded of open tasks, beside what it stands for: which machines they sweep, and that nothing is listed of a
-- deployment on which nobody works.
use Rattle.std.specs.Prelude.{◌≡◌, ◌<◌, ◌+◌, ℕ, List, None, Option, Some, false, true}
use Rattle.std.specs.declared.cmp.Ordering.TheVariants.{Less}
use Rattle.bosh_base.specs.declared.inst.Inst.{Inst}
use Rattle.bosh_base.specs.declared.snapshot.DepRow.{DepRow}
use Rattle.bosh_history.specs.Words.{is_among}
use Rattle.bosh_records.specs.Changes.{since_cmp}
use Rattle.bosh_records.specs.Places.{part_of}
use Rattle.bosh_records.specs.Recorded.{Recorded}
use Rattle.bosh_records.specs.Table.{thing_in}
use Rattle.bosh_records.specs.declared.machines.Machine.{Machine}
use Rattle.bosh_records.specs.declared.orphans.LooseDisk.{LooseDisk}
use Rattle.bosh_records.specs.declared.records.Since.{Since}
use Rattle.bosh_records.specs.declared.records.Since.TheVariants as sinces
use Rattle.bosh_work.specs.Part.{no_part}
use Rattle.bosh_work.specs.declared.part.MachineName.{MachineName}
use Rattle.bosh_work.specs.declared.work.Work.{Work}
use Rattle.laws_stands.specs.Linked.{same_machine}
use Rattle.laws_stands.specs.Reading.{dep_of, machine_of, orphan_of, work_of}
use Rattle.laws_stands.specs.Told.{Told, is_going}

-- no task that is recorded as open is of the deployment, or of none
abbrev pub HasNoWork : Recorded → Option (List ℕ) → Type 0
HasNoWork it dep = (t : ℕ) (w : Work) → work_of it t ≡ Some w → dep_of it t ≡ dep → ⊥

-- a machine that a task sweeps is of an earlier one, which has ended
abbrev pub SweepsEnded : Told → ℕ → MachineName → Type 0
SweepsEnded told t name = (name.task < t) × (is_going told.known name.task ≡ false)

pub record Fits (told : Told) (it : Recorded) : Type 0 where
  pub swept : (t : ℕ) (w : Work) (name : MachineName) → work_of it t ≡ Some w →
      is_among same_machine name w.sweep.items ≡ true → SweepsEnded told t name
  pub parts : (i : Inst) → HasNoWork it (Some i.dep) → part_of it i ≡ no_part
  pub sweeps : (name : MachineName) (machine : Machine) → machine_of it name ≡ Some machine →
      HasNoWork it (Some machine.row.dep) → machine.sweep ≡ None
  pub deletions : (d : ℕ) (loose : LooseDisk) → orphan_of it d ≡ Some loose → HasNoWork it None →
      loose.deleting ≡ None
  -- no deployment is recorded since a task that is not opened yet
  pub since : (since : Since) (row : DepRow) → thing_in since_cmp it.deployments since ≡ Some row →
      since_cmp since (sinces.Task (told.known.tasks + 1)) ≡ Less
