-- A snapshot of what is recorded is that of what is known.
use Rattle.std.proofs.Common.{◌≡◌, ◌∙◌, ℕ, Bool, true, false, ◌&&◌, map, Option, Some, None}
use Rattle.std.proofs.Common.{ap, refl, sym}
use Rattle.std.specs.Prelude.{eqb, is_some, nat_le, if◌then◌else◌}
use Rattle.std.specs.List.{filter_map}
use Rattle.std.specs.Option.{option_and_then, option_map}
use Rattle.std.specs.Ordering.{nat_cmp}
use Rattle.std.proofs.lemmas.Bool.{and_parts, false≢true}
use Rattle.bosh_base.specs.Cloud.{numbers_to}
use Rattle.bosh_base.specs.Inst.{inst_cmp}
use Rattle.bosh_base.specs.declared.snapshot.CompileRow.{CompileRow}
use Rattle.bosh_base.specs.declared.snapshot.Snapshot.{Snapshot}
use Rattle.bosh_base.specs.declared.task.TaskRow.{TaskRow}
use Rattle.bosh_history.specs.Known.{Known}
use Rattle.bosh_history.specs.Moments.{Moment}
use Rattle.bosh_history.specs.Snapshots.{compile_row, dep_row, snapshot_of, task_row}
use Rattle.bosh_history.specs.Words.{is_among}
use Rattle.bosh_records.specs.Arrivals.{Arrivals}
use Rattle.bosh_records.specs.Readers.{machine_cmp}
use Rattle.bosh_records.specs.Recorded.{Recorded, recorded}
use Rattle.bosh_records.specs.Table.{found, things}
use Rattle.bosh_records.specs.declared.instances.Instance.{Instance}
use Rattle.bosh_records.specs.declared.machines.Machine.{Machine}
use Rattle.bosh_records.specs.declared.orphans.LooseDisk.{LooseDisk}
use Rattle.bosh_records.specs.declared.records.Records.{Records}
use Rattle.bosh_rows.specs.Same.{same_inst}
use Rattle.bosh_rows.specs.Standing.{same_truth}
use Rattle.bosh_views.specs.Snapshot.{IsSnapshot, compile_rows, loose_disks, recorded_rows}
use Rattle.bosh_work.specs.declared.part.MachineName.{MachineName}
use Rattle.laws_facts.specs.Lists.{ListFacts}
use Rattle.laws_stands.specs.Linked.{same_machine}
use Rattle.laws_stands.specs.Stands.{StandsIn, arrivals_of, row_of_slot}
use Rattle.laws_stands.specs.Told.{Told}
use Rattle.laws_stands_snapshots.proofs.TableListLemmas.{filter_all, filter_mapped, mapped_filter, table_lists}
use Rattle.laws_stands_snapshots.proofs.OrderLemmas.{among_named, among_numbers, inst_order, machine_name, machine_order}
use Rattle.laws_stands_snapshots.proofs.OrderLemmas.{number_order, numbers_rise, order_named}

-- what is listed is there
listed_some : {X : Type 0} (listed : Bool) (o : Option X) → same_truth listed (is_some o) ≡ true → listed ≡ true
    → is_some o ≡ true
listed_some true o truth is = truth
listed_some false o truth is = absurd (false≢true is)

-- .. and nothing else
where_listed : {X : Type 0} (listed : Bool) (o : Option X) → same_truth listed (is_some o) ≡ true
    → o ≡ (if listed then o else None)
where_listed true o truth = refl
where_listed false (Some x) truth = absurd (false≢true truth)
where_listed false None truth = refl

mapped_some : {A B : Type 0} (f : A → B) (o : Option A) → is_some (option_map f o) ≡ is_some o
mapped_some f (Some a) = refl
mapped_some f None = refl

-- a thing of a table whose places may be free
thing_mapped : {A B : Type 0} (f : A → B) (o : Option (Option A))
    → option_and_then (option_map f) o ≡ option_map f (option_and_then (λ place. place) o)
thing_mapped f (Some place) = refl
thing_mapped f None = refl

module _ (told : Told) (m : Moment) (same : told.known ≡ m.known) (h : ListFacts m) (it : Recorded)
    (stands : StandsIn told it) where
  abbrev k : Known
  k = m.known

  pub rows_are : recorded_rows it.instances ≡ map k.row k.instances
  rows_are =
      table_lists inst_cmp same_inst inst_order (λ (known : Instance). known.row) it.instances k.instances
      (λ i. Some (k.row i)) stands.ordered.instances h.instances_in_order
      (λ i. stands.rows i
      ∙ (λ j. if is_among same_inst i (same j).instances then Some ((same j).row i) else None)) (λ i there. refl)
      ∙ filter_all k.row k.instances

  machines_are : compile_rows it.machines ≡ filter_map (compile_row k) k.machines
  machines_are =
      mapped_filter (λ (e : MachineName × Option Machine). e.1) (λ (machine : Machine). machine.row) it.machines
      ∙ table_lists machine_cmp same_machine machine_order (option_map (λ (machine : Machine). machine.row)) it.machines
      (map machine_name k.machines) at stands.ordered.machines (order_named k.machines ∙ h.machines_in_order)
      says there
      ∙ filter_mapped at machine_name k.machines
    where
      at : MachineName → Option CompileRow
      at name = option_map (row_of_slot name.task name.slot) (k.slot name.task name.slot)

      says : (name : MachineName)
          → option_and_then (option_map (λ (machine : Machine). machine.row)) (found machine_cmp it.machines name)
          ≡ (if is_among same_machine name (map machine_name k.machines) then at name else None)
      says name =
          thing_mapped (λ (machine : Machine). machine.row) (found machine_cmp it.machines name)
          ∙ stands.machines name
          ∙ (λ j. option_map (row_of_slot name.task name.slot) ((same j).slot name.task name.slot))
          ∙ where_listed (is_among same_machine name (map machine_name k.machines)) (at name)
          ((λ j. same_truth (among_named name k.machines j)
          (mapped_some (row_of_slot name.task name.slot) (k.slot name.task name.slot) j))
          ∙ h.machine_listed name.task name.slot)

      there : (name : MachineName) → is_among same_machine name (map machine_name k.machines) ≡ true
          → is_some (at name) ≡ true
      there name listed =
          mapped_some (row_of_slot name.task name.slot) (k.slot name.task name.slot)
          ∙ listed_some (is_among same_machine name (map machine_name k.machines)) (k.slot name.task name.slot)
          ((λ j. same_truth (among_named name k.machines j) (is_some (k.slot name.task name.slot)))
          ∙ h.machine_listed name.task name.slot) listed

  orphan_truth : (d : ℕ) → same_truth (is_among eqb d k.orphans) (is_some (k.orphan d)) ≡ true
  orphan_truth d = (and_parts (same_truth (is_among eqb d k.orphans) (is_some (k.orphan d))) _ (h.orphan_listed d)).0

  pub orphans_are : loose_disks it.orphans ≡ filter_map k.orphan k.orphans
  orphans_are =
      mapped_filter (λ (e : ℕ × Option LooseDisk). e.1) (λ (loose : LooseDisk). loose.orphan) it.orphans
      ∙ table_lists nat_cmp eqb number_order (option_map (λ (loose : LooseDisk). loose.orphan)) it.orphans k.orphans
      k.orphan stands.ordered.orphans h.orphans_in_order
      (λ d. thing_mapped (λ (loose : LooseDisk). loose.orphan) (found nat_cmp it.orphans d)
      ∙ stands.orphans d ∙ (λ j. (same j).orphan d)
      ∙ where_listed (is_among eqb d k.orphans) (k.orphan d) (orphan_truth d))
      (λ d. listed_some (is_among eqb d k.orphans) (k.orphan d) (orphan_truth d))

  pub tasks_are : things it.tasks ≡ map (task_row k) (numbers_to k.tasks)
  tasks_are =
      table_lists nat_cmp eqb number_order (λ (place : Option TaskRow). place) it.tasks (numbers_to k.tasks)
      (λ t. Some (task_row k t)) stands.ordered.tasks (numbers_rise k.tasks)
      (λ t. stands.tasks t
      ∙ (λ j. if nat_le 1 t && nat_le t (same j).tasks then Some (task_row (same j) t) else None)
      ∙ (λ j. if sym (among_numbers k.tasks t) j then Some (task_row k t) else None)) (λ t there. refl)
      ∙ filter_all (task_row k) (numbers_to k.tasks)

-- but for the keys that are compiled, by which it takes its premise
pub snapshot_is : (m : Moment) (told : Told) (records : Records) (s : Snapshot) → StandsIn told (recorded records)
    → told.known ≡ m.known → ListFacts m → IsSnapshot records s → s.built_keys ≡ m.known.built
    → s ≡ snapshot_of m.known
snapshot_is m told records s stands same h is built = λ i. record {
  releases = (is.releases ∙ ap (λ (it : Arrivals). it.releases) came) i;
  stemcells = (is.stemcells ∙ ap (λ (it : Arrivals). it.stemcells) came) i;
  config = (is.config ∙ ap (λ (it : Arrivals). it.config) came) i;
  deployments = (is.deployments ∙ stands.deployments ∙ (λ j. filter_map (dep_row (same j)) (same j).deployments)) i;
  rows = (is.rows ∙ rows_are told m same h (recorded records) stands) i;
  compile_rows = (is.compile_rows ∙ machines_are told m same h (recorded records) stands) i;
  orphans = (is.orphans ∙ orphans_are told m same h (recorded records) stands) i;
  built_keys = built i;
  tasks = (is.tasks ∙ tasks_are told m same h (recorded records) stands) i;
  last_call = (is.last_call ∙ ap (λ (it : Arrivals). it.last_call) came) i;
}
  where
    came : (recorded records).came ≡ arrivals_of m.known
    came = stands.uploads ∙ ap arrivals_of same
