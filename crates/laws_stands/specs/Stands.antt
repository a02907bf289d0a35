-- What is recorded stands for what was told: table by table, each at one subject. The lists in order, of which a snapshot
-- is made, follow: both sides are in strict order, and have the same members.
use Rattle.std.specs.Prelude.{◌≡◌, ℕ, true, false, ◌&&◌, ◌<◌, nat_le, List, Option, Some, None, filter, find}
use Rattle.std.specs.Prelude.{is_some, map}
use Rattle.std.specs.Prelude.{if◌then◌else◌}
use Rattle.std.specs.List.{filter_map, list_any}
use Rattle.std.specs.Option.{option_and_then, option_map}
use Rattle.bosh_base.specs.Cloud.{numbers_to}
use Rattle.bosh_base.specs.declared.inst.Inst.{Inst}
use Rattle.bosh_base.specs.declared.key.Key.{Key}
use Rattle.bosh_base.specs.declared.owner.Owner.{Owner}
use Rattle.bosh_base.specs.declared.owner.Owner.TheVariants.{Compile, Disk, Instance}
use Rattle.bosh_base.specs.declared.snapshot.CompileRow.{CompileRow}
use Rattle.bosh_compile.specs.Readiness.{same_key}
use Rattle.bosh_history.specs.Items.{is_leftover}
use Rattle.bosh_history.specs.Known.{Known, Slot}
use Rattle.bosh_history.specs.Slots.{keys_of}
use Rattle.bosh_history.specs.Snapshots.{dep_row, task_row}
use Rattle.bosh_history.specs.Steps.{compiles}
use Rattle.bosh_history.specs.Words.{holds, is_among}
use Rattle.bosh_progress.specs.Tree.{first_marked}
use Rattle.bosh_records.specs.Arrivals.{Arrivals}
use Rattle.bosh_records.specs.Ordered.{AreOrdered}
use Rattle.bosh_records.specs.Recorded.{Recorded, recorded}
use Rattle.bosh_records.specs.Table.{things}
use Rattle.bosh_records.specs.declared.records.Records.{Records}
use Rattle.bosh_rows.specs.Same.{same_inst, same_owner}
use Rattle.bosh_work.specs.declared.part.MachineName.{MachineName}
use Rattle.bosh_work.specs.declared.work.Work.{Work}
use Rattle.laws_stands.specs.Linked.{IsLinked}
use Rattle.laws_stands.specs.Reading as reading
use Rattle.laws_stands.specs.Told.{TellsWell, Told, is_going}
use Rattle.laws_stands.specs.WorkStands.{StandsFor}

-- the number of an owner's open call
abbrev pub call_of : Told → Owner → Option ℕ
call_of told owner = find (λ n. holds (λ b. same_owner owner b.owner) (told.calls n))
    (numbers_to told.known.last_call)

-- the place of a key among those of a task's goal
abbrev pub key_place : Known → ℕ → Option Key → Option ℕ
key_place k t key =
    option_and_then (λ it. first_marked (map (λ work. same_key work.key it) (keys_of (k.task t).goal))) key

-- what a compile machine is for
abbrev pub key_of_slot : Option Slot → Option Key
key_of_slot slot = option_and_then (λ it. it.key) slot

-- what came
abbrev pub arrivals_of : Known → Arrivals
arrivals_of k = record {
  releases = k.releases;
  stemcells = k.stemcells;
  config = k.config;
  opened = k.tasks;
  last_call = k.last_call;
}

-- what is recorded of a compile machine
abbrev pub row_of_slot : ℕ → ℕ → Slot → CompileRow
row_of_slot t s it = record { task = t; slot = s; dep = it.dep; make = it.make; vm = it.vm; doubt = it.doubt }

-- what is left over for a task, by what it swept when it opened
abbrev pub AreSwept : Known → ℕ → List MachineName → Type 0
AreSwept k t swept =
    map (λ name. record { task = name.task; slot = name.slot })
    (filter (λ name. is_some (k.slot name.task name.slot)) swept)
    ≡ filter (is_leftover k t) k.machines

-- an open task has its work, but for one that a snapshot told, which has none
abbrev pub IsWork : Told → ℕ → Option Work → Type 0
IsWork told t (Some work) =
    (is_going told.known t ≡ true)
    × (told.snapped < t)
    × ((swept : List MachineName) × StandsFor told (told.known.task t) t swept work × AreSwept told.known t swept)
IsWork told t None = told.snapped < t → is_going told.known t ≡ false

-- all that is recorded stands for what is told
pub record StandsIn (told : Told) (it : Recorded) : Type 0 where
  pub uploads : it.came ≡ arrivals_of told.known
  -- by the number of the first task, so this one is a list
  pub deployments : things it.deployments ≡ filter_map (dep_row told.known) told.known.deployments
  pub rows : (i : Inst) →
      reading.row_of it i ≡ (if is_among same_inst i told.known.instances then Some (told.known.row i) else None)
  pub row_calls : (i : Inst) →
      option_and_then (λ known. known.call) (reading.instance_of it i) ≡ call_of told (Instance i)
  pub machines : (name : MachineName) →
      option_map (λ machine. machine.row) (reading.machine_of it name)
      ≡ option_map (row_of_slot name.task name.slot) (told.known.slot name.task name.slot)
  -- what a machine was made for is told by no snapshot, and only its own task asks for it
  pub machine_keys : (name : MachineName) → told.snapped < name.task →
      option_and_then (λ machine. machine.key) (reading.machine_of it name)
      ≡ key_place told.known name.task (key_of_slot (told.known.slot name.task name.slot))
  pub machine_calls : (name : MachineName) →
      option_and_then (λ machine. machine.call) (reading.machine_of it name)
      ≡ call_of told (Compile name.task name.slot)
  pub orphans : (d : ℕ) → option_map (λ loose. loose.orphan) (reading.orphan_of it d) ≡ told.known.orphan d
  pub orphan_calls : (d : ℕ) →
      option_and_then (λ loose. loose.call) (reading.orphan_of it d) ≡ call_of told (Disk d)
  pub digests : (key : Key) → reading.digest_of it key ≡ told.known.digest key
  pub compiling : (key : Key) →
      reading.is_compiling it key
      ≡ list_any (λ n. holds (λ b. compiles key b.call) (told.calls n)) (numbers_to told.known.last_call)
  pub tasks : (t : ℕ) →
      reading.task_of it t
      ≡ (if nat_le 1 t && nat_le t told.known.tasks then Some (task_row told.known t) else None)
  pub calls : (n : ℕ) → reading.call_of it n ≡ told.calls n
  pub works : (t : ℕ) → IsWork told t (reading.work_of it t)
  pub linked : IsLinked it
  pub ordered : AreOrdered it
  pub tells_well : TellsWell told

-- the records stand for what was told
abbrev pub Stands : Told → Records → Type 0
Stands told records = StandsIn told (recorded records)

-- it stands, given that its keys stand in order
abbrev pub StandsInOrder : Told → Recorded → Type 0
StandsInOrder told it = AreOrdered it → StandsIn told it
