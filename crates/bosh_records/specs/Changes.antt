-- What changes in what is recorded of one subject.
use Rattle.std.specs.Prelude.{ℕ, ◌+◌, List, Option, Some, None, min, option_map}
use Rattle.std.specs.Option.{option_or}
use Rattle.std.specs.declared.cmp.Ordering.{Ordering}
use Rattle.bosh_base.specs.declared.goal.Goal.{Goal}
use Rattle.bosh_base.specs.declared.offer.Offer.{Offer}
use Rattle.bosh_base.specs.declared.row.Doubt.{Doubt}
use Rattle.bosh_base.specs.declared.snapshot.DepRow.{DepRow}
use Rattle.bosh_base.specs.declared.task.TaskEnd.{TaskEnd}
use Rattle.bosh_base.specs.declared.task.TaskRow.{TaskRow}
use Rattle.bosh_base.specs.declared.row.Vm.{Vm}
use Rattle.bosh_records.specs.contracts.records.SinceOrd.TheImpl as since_order
use Rattle.bosh_records.specs.declared.machines.Machine.{Machine}
use Rattle.bosh_records.specs.declared.orphans.LooseDisk.{LooseDisk}
use Rattle.bosh_records.specs.declared.records.Since.{Since}
use Rattle.bosh_work.specs.Line.{finished_line}
use Rattle.bosh_work.specs.declared.work.Work.{Work}

-- ---- compile machines

abbrev pub with_machine_call : Option ℕ → Machine → Machine
with_machine_call call it = record it { call = call }

abbrev pub with_sweep : Option ℕ → Machine → Machine
with_sweep place it = record it { sweep = place }

abbrev pub with_machine_doubt : Doubt → Machine → Machine
with_machine_doubt doubt it = record it { row = record it.row { doubt = Some doubt } }

-- it is there, by its number, where one is told, and there is no doubt any more
abbrev pub machine_there : Option Vm → Machine → Machine
machine_there vm it = record it { row = record it.row { vm = option_or vm it.row.vm; doubt = None } }

-- ---- disks that belong to no instance

abbrev pub with_disk_call : Option ℕ → LooseDisk → LooseDisk
with_disk_call call it = record it { call = call }

abbrev pub with_deleting : Option ℕ → LooseDisk → LooseDisk
with_deleting place it = record it { deleting = place }

abbrev pub with_disk_doubt : Option Doubt → LooseDisk → LooseDisk
with_disk_doubt doubt it = record it { orphan = record it.orphan { doubt = doubt } }

-- ---- deployments

-- a place in a snapshot before a task, each by its number
abbrev pub since_cmp : Since → Since → Ordering
since_cmp = since_order.ghosts.cmp

abbrev pub with_goal : Goal → DepRow → DepRow
with_goal goal it = record it { goal = goal }

abbrev pub with_shared : List Offer → DepRow → DepRow
with_shared offers it = record it { shared = offers }

-- ---- tasks

-- one call more, where calls are counted
abbrev pub one_more : Option ℕ → Option ℕ
one_more calls = option_map (λ n. min (n + 1) 18446744073709551615) calls

abbrev pub with_one_call : TaskRow → TaskRow
with_one_call it = record it { calls = one_more it.calls }

abbrev pub with_end : TaskEnd → TaskRow → TaskRow
with_end end it = record it { end = Some end }

-- ---- what is left of tasks

-- an instance has answered whether its machine is there
abbrev pub with_pinged : Option ℕ → Work → Work
with_pinged place it = record it { pings = finished_line it.pings place }

-- nothing is left of an instance that goes
abbrev pub with_left : Option ℕ → Work → Work
with_left place it = record it { obsolete = finished_line it.obsolete place }
