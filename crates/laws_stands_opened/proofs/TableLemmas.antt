-- What is read of compile machines, disks, tasks and works once a task opens.
use Rattle.std.proofs.Common.{◌≡◌, ◌∙◌, ℕ, Bool, true, false, ◌&&◌, List, Option, Some, None, ap, arith, refl, sym}
use Rattle.std.specs.Prelude.{eqb, is_some, nat_le, not, if◌then◌else◌}
use Rattle.std.specs.Option.{option_and_then}
use Rattle.std.specs.Ordering.{nat_cmp}
use Rattle.std.proofs.lemmas.Bool.{eqb-true, false≢true}
use Rattle.std.proofs.lemmas.Bool.Decides.{nat_tests}
use Rattle.bosh_base.specs.declared.entry.TaskOpen.{TaskOpen}
use Rattle.bosh_base.specs.declared.task.TaskRow.{TaskRow}
use Rattle.bosh_fold.specs.Tasks.{deletings_set, sweeps_set}
use Rattle.bosh_history.specs.Known.{Known, Task}
use Rattle.bosh_history.specs.Tasks.{task_opened}
use Rattle.bosh_plan.specs.Opened.{task_row_of}
use Rattle.bosh_plan.specs.WorkBy.{is_of, is_swept, swept_in}
use Rattle.bosh_records.specs.Changes.{with_deleting, with_sweep}
use Rattle.bosh_records.specs.Readers.{machine_cmp}
use Rattle.bosh_records.specs.Recorded.{Recorded}
use Rattle.bosh_records.specs.Table.{thing_in}
use Rattle.bosh_records.specs.declared.machines.Machine.{Machine}
use Rattle.bosh_records.specs.declared.orphans.LooseDisk.{LooseDisk}
use Rattle.bosh_work.specs.declared.part.MachineName.{MachineName}
use Rattle.bosh_work.specs.declared.work.Work.{Work}
use Rattle.laws_stands.proofs.DeploymentLemmas.{bytes_is}
use Rattle.laws_stands.proofs.OrderLemmas.{once_of}
use Rattle.laws_stands.specs.Linked.{same_machine}
use Rattle.laws_stands.specs.LineStands.{place_of}
use Rattle.laws_stands.specs.Reading.{dep_of, machine_of, orphan_of, task_of, work_of}
use Rattle.laws_stands.specs.Told.{Told, is_going}
use Rattle.laws_stands_closed.proofs.ClearedLemmas.{machine_at}
use Rattle.laws_stands_on.proofs.KeyLemmas.{machine_keys}
use Rattle.laws_stands_on.proofs.NextCallLemmas.{row_by}
use Rattle.laws_stands_on.proofs.TableLemmas.{nat_keys}
use Rattle.laws_stands_opened.proofs.InstLemmas.{machine_as, nat_as}
use Rattle.laws_stands_opened.proofs.OpeningLemmas.{Opens, new, now, work_stands}
use Rattle.laws_stands_opened.proofs.SetLemmas.{passes_there, passing_apart, place_among, thing_found}
use Rattle.laws_stands_opened.proofs.SetLemmas.{thing_kept, thing_placed, thing_put}

-- a compile machine is told its place among those that are swept
abbrev pub swept_at : Option ℕ → Option Machine → Option Machine
swept_at place o = thing_placed machine_cmp machine_keys same_machine machine_as (λ p. with_sweep (Some p)) place o

-- .. and a disk among those that are deleted
abbrev pub deleting_at : Option ℕ → Option LooseDisk → Option LooseDisk
deleting_at place o = thing_placed nat_cmp nat_keys eqb nat_as (λ p. with_deleting (Some p)) place o

is_dep : (dep : Option (List ℕ)) (own : List ℕ) → is_of dep own ≡ true → dep ≡ Some own
is_dep (Some dep) own is = ap Some (bytes_is dep own is)
is_dep None own is = absurd (false≢true is)

module _ (told : Told) (it : Recorded) (o : TaskOpen) (work : Work) (opens : Opens told it o work) where
  -- what was known
  abbrev k : Known
  k = told.known

  -- what is told once the task opens
  abbrev told_now : Told
  told_now = new told it o work opens

  -- what is recorded once the task opens
  abbrev it_now : Recorded
  it_now = now told it o work opens

  -- ---- compile machines

  -- those that are left over
  abbrev pub leftover : List MachineName
  leftover = swept_in o.dep it.machines

  -- where a compile machine stands among them
  abbrev pub sweep : MachineName → Option ℕ
  sweep name = place_of same_machine name leftover

  pub machine_now : (name : MachineName) → machine_of it_now name ≡ swept_at (sweep name) (machine_of it name)
  machine_now name =
      ap (λ items. thing_in machine_cmp (sweeps_set items it.machines) name) opens.swept_are
      ∙ thing_found machine_cmp machine_keys same_machine machine_as (λ p. with_sweep (Some p)) leftover it.machines name
      (passing_apart machine_cmp same_machine machine_at (is_swept o.dep) it.machines
      (once_of (opens.stands).ordered).machines)

  pub machine_kept : {Y : Type 0} (read : Machine → Option Y)
      → ((p : ℕ) (machine : Machine) → read (with_sweep (Some p) machine) ≡ read machine) → (name : MachineName)
      → option_and_then read (machine_of it_now name) ≡ option_and_then read (machine_of it name)
  machine_kept read same name =
      ap (option_and_then read) (machine_now name)
      ∙ thing_kept machine_cmp machine_keys same_machine machine_as (λ p. with_sweep (Some p)) read same (sweep name)
      (machine_of it name)

  -- one that is left over is of the deployment
  pub leftover_dep : (name : MachineName) (machine : Machine) → is_some (sweep name) ≡ true
      → machine_of it name ≡ Some machine → o.dep ≡ Some machine.row.dep
  leftover_dep name machine is there =
      is_dep o.dep machine.row.dep
      (passes_there machine_cmp same_machine machine_at (is_swept o.dep) it.machines
      (once_of (opens.stands).ordered).machines machine_is name machine (place_among same_machine name leftover is) there)
    where
      machine_is : (a b : MachineName) → same_machine a b ≡ true → a ≡ b
      machine_is a b same = machine_keys a b (machine_at a b ∙ same)

  -- ---- disks

  -- where a disk stands among those that are deleted
  abbrev pub deleting : ℕ → Option ℕ
  deleting d = place_of eqb d o.disks

  pub orphan_now : (d : ℕ) → orphan_of it_now d ≡ deleting_at (deleting d) (orphan_of it d)
  orphan_now d =
      ap (λ items. thing_in nat_cmp (deletings_set items it.orphans) d) ((work_stands told it o work opens).disks).items_are
      ∙ thing_found nat_cmp nat_keys eqb nat_as (λ p. with_deleting (Some p)) o.disks it.orphans d (opens.allows).disks_apart

  pub orphan_kept : {Y : Type 0} (read : LooseDisk → Option Y)
      → ((p : ℕ) (loose : LooseDisk) → read (with_deleting (Some p) loose) ≡ read loose) → (d : ℕ)
      → option_and_then read (orphan_of it_now d) ≡ option_and_then read (orphan_of it d)
  orphan_kept read same d =
      ap (option_and_then read) (orphan_now d)
      ∙ thing_kept nat_cmp nat_keys eqb nat_as (λ p. with_deleting (Some p)) read same (deleting d) (orphan_of it d)

  -- where a task deletes disks, it is of no deployment
  pub deleting_dep : (d : ℕ) → is_some (deleting d) ≡ true → o.dep ≡ None
  deleting_dep d is = (opens.allows).own.deleting d (place_among eqb d o.disks is)

  -- ---- works and tasks

  pub work_now : (t : ℕ) → work_of it_now t ≡ (if eqb o.task t then Some work else work_of it t)
  work_now t = thing_put o.task work it.works opens.works_room t

  pub task_now : (t : ℕ) → task_of it_now t ≡ (if eqb o.task t then Some (task_row_of o) else task_of it t)
  task_now t = thing_put o.task (task_row_of o) it.tasks opens.tasks_room t

  pub dep_now : (t : ℕ) → dep_of it_now t ≡ (if eqb o.task t then o.dep else dep_of it t)
  dep_now t = ap (option_and_then (λ (row : TaskRow). row.dep)) (task_now t) ∙ by (eqb o.task t)
    where
      by : (b : Bool) → option_and_then (λ (row : TaskRow). row.dep) (if b then Some (task_row_of o) else task_of it t)
          ≡ (if b then o.dep else dep_of it t)
      by true = refl
      by false = refl

  -- another task was opened just where it is
  pub opened_other : (t : ℕ) → eqb o.task t ≡ false → nat_le t o.task ≡ nat_le t k.tasks
  opened_other t other = grind (arith, nat_tests, other, (opens.allows).number)

  pub going_other : (t : ℕ) → eqb o.task t ≡ false → is_going told_now.known t ≡ is_going k t
  going_other t other = λ j. nat_le 1 t
      && (opened_other t other j && not (is_some (if other j then task_opened k o else k.task t).end))

  -- what is told of another task is as before
  pub task_same : {X : Type 0} (f : Task → X) → (t : ℕ) → eqb o.task t ≡ false → f (told_now.known.task t) ≡ f (k.task t)
  task_same f t other = λ j. f (if other j then task_opened k o else k.task t)

  pub tasks_now : (t : ℕ) → task_of it_now t
      ≡ (if nat_le 1 t && nat_le t told_now.known.tasks then Some (row_by t (told_now.known.task t)) else None)
  tasks_now t = task_now t ∙ by (eqb o.task t) refl
    where
      opened : eqb o.task t ≡ true → (nat_le 1 t && nat_le t o.task) ≡ true
      opened own = grind (arith, nat_tests, own, (opens.allows).number)

      by : (b : Bool) → eqb o.task t ≡ b
          → (if b then Some (task_row_of o) else task_of it t)
          ≡ (if nat_le 1 t && nat_le t o.task then Some (row_by t (told_now.known.task t)) else None)
      by true own =
          (λ j. Some (row_by (eqb-true o.task t own j) (task_opened k o)))
          ∙ (λ j. Some (row_by t (if sym own j then task_opened k o else k.task t)))
          ∙ (λ j. if sym (opened own) j then Some (row_by t (told_now.known.task t)) else None)
      by false other =
          (opens.stands).tasks t
          ∙ (λ j. if nat_le 1 t && sym (opened_other t other) j
          then Some (row_by t (if sym other j then task_opened k o else k.task t)) else None)
