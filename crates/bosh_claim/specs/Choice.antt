-- What a worker of a task does next.
use Rattle.std.specs.Prelude.{ℕ, ◌==◌, Option, Some, None, if◌then◌else◌}
use Rattle.std.specs.Option.{option_map}
use Rattle.bosh_base.specs.declared.call.Call.{Call}
use Rattle.bosh_base.specs.declared.entry.Entry.{Entry}
use Rattle.bosh_base.specs.declared.owner.Owner.{Owner}
use Rattle.bosh_base.specs.declared.task.TaskEnd.{TaskEnd}
use Rattle.bosh_records.specs.Readers.{work_at}
use Rattle.bosh_records.specs.declared.records.Records.{Records}
use Rattle.bosh_work.specs.declared.work.Work.{Work}
use Rattle.bosh_claim.specs.Noted.{beginning, leaving_entry, ping}
use Rattle.bosh_claim.specs.Phase.{present}
use Rattle.bosh_claim.specs.Slot.{slot_call}
use Rattle.bosh_claim.specs.Sweep.{disk_call, sweep_call}
use Rattle.bosh_claim.specs.Updated.{update_entry}
use Rattle.bosh_claim.specs.declared.choice.Choice.{Choice}
use Rattle.bosh_claim.specs.declared.choice.Choice.TheVariants.{Noted, Waits, Over}
use Rattle.bosh_claim.specs.declared.phase.Phase.{Phase}
use Rattle.bosh_claim.specs.declared.phase.Phase.TheVariants.{Ask, DeleteDisks, Sweep, Compile, Leave, Update}

-- the beginning of a call of an owner, where there is one to make
abbrev pub begun_by : Records → Work → ℕ → Option (Owner × Call) → Option Entry
begun_by records work worker call = option_map (λ it. beginning records work worker it.0 it.1) call

-- what is noted of the first item of a phase that is not passed over
abbrev pub item_of : Records → Work → ℕ → Phase → Option Entry
item_of records work worker Ask = ping records work worker
item_of records work worker DeleteDisks = begun_by records work worker (disk_call records work)
item_of records work worker Sweep = begun_by records work worker (sweep_call records work)
item_of records work worker Compile = begun_by records work worker (slot_call records work)
item_of records work worker Leave = leaving_entry records work worker
item_of records work worker (Update stage) = update_entry records work worker stage

-- what is noted, or else the worker waits
abbrev pub or_waits : Option Entry → Choice
or_waits (Some entry) = Noted entry
or_waits None = Waits

-- the items of the present phase are tried in order
abbrev pub in_phase : Records → Work → ℕ → Option Phase → Choice
in_phase records work worker None = Over
in_phase records work worker (Some phase) = or_waits (item_of records work worker phase)

-- one with a failed call is over once it has no open call, and waits before
abbrev pub of_open : Records → Work → ℕ → Option TaskEnd → Choice
of_open records work worker (Some end) = if work.open == 0 then Over else Waits
of_open records work worker None = in_phase records work worker (present records work)

-- an ended task is over
abbrev pub of_task : Records → ℕ → Option Work → Choice
of_task records worker None = Over
of_task records worker (Some work) = of_open records work worker work.failed

-- what a worker of a task does next: the first of the rules above that gives an answer decides
abbrev pub choice_of : Records → ℕ → ℕ → Choice
choice_of records task worker = of_task records worker (work_at records task)
