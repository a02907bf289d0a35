-- What is recorded of open tasks fits after a task failed or was interrupted.
use Rattle.std.proofs.Common.{◌≡◌, ◌∙◌, ℕ, List, Option, Some, None, ap, refl, subst, sym}
use Rattle.std.specs.Option.{option_and_then, option_map_or}
use Rattle.std.specs.Ordering.{nat_cmp}
use Rattle.bosh_base.specs.declared.entry.Entry.TheVariants as entries
use Rattle.bosh_base.specs.declared.entry.TaskError.{TaskError}
use Rattle.bosh_base.specs.declared.inst.Inst.{Inst}
use Rattle.bosh_base.specs.declared.snapshot.DepRow.{DepRow}
use Rattle.bosh_base.specs.declared.task.TaskEnd.{TaskEnd}
use Rattle.bosh_base.specs.declared.task.TaskEnd.TheVariants as ends
use Rattle.bosh_base.specs.declared.task.TaskRow.{TaskRow}
use Rattle.bosh_fold.specs.Learned.{learned}
use Rattle.bosh_fold.specs.Learns.{Learns}
use Rattle.bosh_fold.specs.Tasks.{forgotten_in, interrupted_in}
use Rattle.bosh_fold.specs.declared.change.Change.{Change}
use Rattle.bosh_history.specs.Calls.{number_of}
use Rattle.bosh_history.specs.Tasks.{end_by}
use Rattle.bosh_plan.specs.Closed.{end_after}
use Rattle.bosh_records.specs.Changes.{since_cmp}
use Rattle.bosh_records.specs.Places.{part_of}
use Rattle.bosh_records.specs.Recorded.{Recorded, recorded}
use Rattle.bosh_records.specs.Table.{thing_in}
use Rattle.bosh_records.specs.declared.instances.Instance.{Instance}
use Rattle.bosh_records.specs.declared.machines.Machine.{Machine}
use Rattle.bosh_records.specs.declared.orphans.LooseDisk.{LooseDisk}
use Rattle.bosh_records.specs.declared.records.Records.{Records}
use Rattle.bosh_records.specs.declared.records.Since.{Since}
use Rattle.bosh_work.specs.Part.{no_part}
use Rattle.bosh_work.specs.declared.part.MachineName.{MachineName}
use Rattle.bosh_work.specs.declared.work.Work.{Work}
use Rattle.laws_stands.proofs.OrderLemmas.{once_of}
use Rattle.laws_stands.specs.Once.{IsOnce}
use Rattle.laws_stands.specs.Reading.{instance_of, machine_of, orphan_of, work_of}
use Rattle.laws_stands.specs.Stands.{Stands}
use Rattle.laws_stands.specs.Told.{Told, telling}
use Rattle.laws_stands_done.proofs.ClosedFitsLemmas.{are_listed, closed_fits}
use Rattle.laws_stands_done.proofs.PlacesLemmas.{SamePlaces, WasDisk, WasMachine, fits_told, same_as_it_is, same_fits}
use Rattle.laws_stands_done.proofs.PlacesLemmas.{same_listed, same_work}
use Rattle.laws_stands_fits.specs.Fits.{Fits}
use Rattle.laws_stands_interrupted.proofs.FoldedLemmas.{deployments_are, folded, instance_read, machine_read, orphan_read}
use Rattle.laws_stands_interrupted.proofs.FoldedLemmas.{tasks_are, works_are}
use Rattle.laws_stands_interrupted.specs.Interrupts.{told_without}
use Rattle.laws_stands_on.proofs.RoomyLemmas.{roomy_stands}

-- ---- places stay where calls are open no more

module _ (t : ℕ) (it : Recorded) where
  part_kept : (o p : Option Instance)
      → option_and_then (λ known. Some known.part) o ≡ option_and_then (λ known. Some known.part) p
      → option_map_or (λ known. known.part) o no_part ≡ option_map_or (λ known. known.part) p no_part
  part_kept (Some a) (Some b) is = cc
  part_kept None None is = refl
  part_kept (Some a) None is = absurd cc
  part_kept None (Some b) is = absurd cc

  pub parts_are : (i : Inst) → part_of (folded t it) i ≡ part_of it i
  parts_are i = part_kept (instance_of (folded t it) i) (instance_of it i)
      (instance_read t it (λ known. Some known.part) (λ known. refl) i)

  pub was_machine : (name : MachineName) (machine : Machine) → machine_of (folded t it) name ≡ Some machine
      → WasMachine it name machine
  was_machine name machine there =
      by (machine_of it name) refl
      (sym (machine_read t it (λ machine. Some machine.row) (λ machine. refl) name)
      ∙ ap (option_and_then (λ (machine : Machine). Some machine.row)) there)
      (sym (machine_read t it (λ machine. Some machine.sweep) (λ machine. refl) name)
      ∙ ap (option_and_then (λ (machine : Machine). Some machine.sweep)) there)
    where
      by : (o : Option Machine) → machine_of it name ≡ o
          → option_and_then (λ (machine : Machine). Some machine.row) o ≡ Some machine.row
          → option_and_then (λ (machine : Machine). Some machine.sweep) o ≡ Some machine.sweep
          → WasMachine it name machine
      by (Some old) is row sweep = record { old = old; is = is; row = cc; sweep = cc }
      by None is row sweep = absurd cc

  pub was_disk : (d : ℕ) (loose : LooseDisk) → orphan_of (folded t it) d ≡ Some loose → WasDisk it d loose
  was_disk d loose there =
      by (orphan_of it d) refl
      (sym (orphan_read t it (λ loose. Some loose.deleting) (λ loose. refl) d)
      ∙ ap (option_and_then (λ (loose : LooseDisk). Some loose.deleting)) there)
    where
      by : (o : Option LooseDisk) → orphan_of it d ≡ o
          → option_and_then (λ (loose : LooseDisk). Some loose.deleting) o ≡ Some loose.deleting → WasDisk it d loose
      by (Some old) is deleting = record { old = old; is = is; deleting = cc }
      by None is deleting = absurd cc

  work_is : (x : ℕ) → work_of (folded t it) x ≡ work_of it x
  work_is x = ap (λ (works : List (ℕ × Option Work)). thing_in nat_cmp works x) (works_are t it)

  pub forgotten_same : SamePlaces it (forgotten_in t it)
  forgotten_same = record {
    works = λ x w is. same_work it x w (sym (work_is x) ∙ is);
    stay = λ x w is. (w, work_is x ∙ is);
    deps = λ x. ap (λ (tasks : List (ℕ × Option TaskRow)).
        option_and_then (λ (row : TaskRow). row.dep) (thing_in nat_cmp tasks x)) (tasks_are t it);
    parts = parts_are;
    machines = was_machine;
    orphans = was_disk;
    since = λ since row is.
        (row, sym (ap (λ (rows : List (Since × Option DepRow)). thing_in since_cmp rows since) (deployments_are t it)) ∙ is);
  }

  interrupted_same : (end : TaskEnd) → SamePlaces it (interrupted_in t end it)
  interrupted_same ends.Interrupted = forgotten_same
  interrupted_same end = same_as_it_is it

  interrupted_works : (end : TaskEnd) → (interrupted_in t end it).works ≡ it.works
  interrupted_works ends.Interrupted = works_are t it
  interrupted_works end = refl

-- ---- all

module _ (told : Told) (was now : Records) (e : TaskError) (stands : Stands told was) (fits : Fits told (recorded was))
    (learns : Learns was (entries.TaskError e) now) where
  -- what was recorded, with the room that was made
  abbrev it : Recorded
  it = recorded learns.roomy

  -- the end that is planned
  abbrev planned : TaskEnd
  planned = end_after was e

  -- .. once no call of an interrupted task is open
  abbrev left : Recorded
  left = interrupted_in e.task planned it

  roomy : Stands told learns.roomy
  roomy = roomy_stands told was (entries.TaskError e) now learns stands

  fits_roomy : Fits told it
  fits_roomy = subst (Fits told) (sym learns.room) fits

  fits_left : Fits (told_without e.task told) left
  fits_left = fits_told told (told_without e.task told) left refl refl
      (same_fits it left (interrupted_same e.task it planned) told fits_roomy)

  pub error_fits : Fits (telling told (entries.TaskError e)) (recorded now)
  error_fits =
      subst (Fits (telling told (entries.TaskError e))) (sym learns.is_learned)
      (subst (λ (change : Change). Fits (telling told (entries.TaskError e)) (learned (entries.TaskError e) change it))
      (sym learns.planned)
      (closed_fits e.task (end_by e.cause (told.known.begun (number_of e.cause))) planned (told_without e.task told) left
      (subst (IsOnce nat_cmp) (sym (interrupted_works e.task it planned)) (once_of roomy.ordered).works)
      (same_listed it left (interrupted_same e.task it planned) (are_listed it roomy.linked)) fits_left))
