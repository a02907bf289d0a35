-- What is recorded of open tasks fits after a task is done, of whatever kind.
use Rattle.std.proofs.Common.{◌≡◌, ◌∙◌, ℕ, Bool, true, false, List, Option, Some, None, ap, refl, subst, sym}
use Rattle.std.specs.Prelude.{is_some, option_map, if◌then◌else◌}
use Rattle.std.specs.BTreeMap.{is_at}
use Rattle.std.specs.Option.{option_and_then, option_map_or}
use Rattle.std.specs.Ordering.{nat_cmp}
use Rattle.bosh_base.specs.Inst.{inst_cmp}
use Rattle.bosh_base.specs.declared.entry.Entry.TheVariants as entries
use Rattle.bosh_base.specs.declared.goal.Goal.{Goal}
use Rattle.bosh_base.specs.declared.inst.Inst.{Inst}
use Rattle.bosh_base.specs.declared.offer.Offer.{Offer}
use Rattle.bosh_base.specs.declared.snapshot.DepRow.{DepRow}
use Rattle.bosh_base.specs.declared.task.TaskEnd.TheVariants as ends
use Rattle.bosh_base.specs.declared.task.TaskKind.{TaskKind}
use Rattle.bosh_base.specs.declared.task.TaskKind.TheVariants as kinds
use Rattle.bosh_fold.specs.Learned.{learned}
use Rattle.bosh_fold.specs.Learns.{Learns}
use Rattle.bosh_fold.specs.Tasks.{deployed, deployment_done, dropped_at, is_deletion, shared_at, since_of}
use Rattle.bosh_fold.specs.Tasks.{wants_forgotten}
use Rattle.bosh_fold.specs.declared.change.Change.{Change}
use Rattle.bosh_history.specs.Known.{Known, dep_of_task}
use Rattle.bosh_history.specs.Tasks.{settles}
use Rattle.bosh_plan.specs.Closed.{offers_after}
use Rattle.bosh_records.specs.Changes.{since_cmp, with_shared}
use Rattle.bosh_records.specs.Places.{part_of}
use Rattle.bosh_records.specs.Recorded.{Recorded, recorded}
use Rattle.bosh_records.specs.Table.{changed, found, thing_in, without}
use Rattle.bosh_records.specs.declared.instances.Instance.{Instance}
use Rattle.bosh_records.specs.declared.records.Records.{Records}
use Rattle.bosh_records.specs.declared.records.Since.{Since}
use Rattle.bosh_work.specs.Part.{no_part}
use Rattle.laws_stands.proofs.OrderLemmas.{once_of}
use Rattle.laws_stands.specs.Once.{IsOnce}
use Rattle.laws_stands.specs.Stands.{Stands}
use Rattle.laws_stands.specs.Told.{Told, telling}
use Rattle.laws_stands_done.proofs.ClosedFitsLemmas.{are_listed, closed_fits}
use Rattle.laws_stands.proofs.OrderLemmas.{once_in}
use Rattle.laws_stands_done.proofs.PlacesLemmas.{SamePlaces, fits_told, same_as_it_is, same_fits, same_listed, same_work}
use Rattle.laws_stands_fits.proofs.SinceLemmas.{since_keys}
use Rattle.laws_stands_done.proofs.WantLemmas.{forgotten_same}
use Rattle.laws_stands_fits.specs.Fits.{Fits}
use Rattle.laws_stands_on.proofs.RoomyLemmas.{roomy_stands}
use Rattle.laws_stands_on.proofs.TableLemmas.{found_without, thing_changed}

-- ---- what the end of a task tells of its deployment is nothing of tasks

tasks_settled : (kind : TaskKind) (goal : Option Goal) (dep : List ℕ) (k : Known)
    → (settles kind goal dep k).tasks ≡ k.tasks
tasks_settled kinds.Deploy goal dep k = refl
tasks_settled kinds.Fix goal dep k = refl
tasks_settled kinds.DeleteDeployment goal dep k = refl
tasks_settled kind goal dep k = refl

task_settled : (kind : TaskKind) (goal : Option Goal) (dep : List ℕ) (k : Known)
    → (settles kind goal dep k).task ≡ k.task
task_settled kinds.Deploy goal dep k = refl
task_settled kinds.Fix goal dep k = refl
task_settled kinds.DeleteDeployment goal dep k = refl
task_settled kind goal dep k = refl

-- ---- what is recorded of the deployment

-- a deployment was recorded since then
abbrev WasThere : Recorded → Since → Type 0
WasThere it since = (old : DepRow) × (thing_in since_cmp it.deployments since ≡ Some old)

changed_was : (it : Recorded) (key : Since) (change : DepRow → DepRow) (since : Since) (row : DepRow)
    → thing_in since_cmp (changed since_cmp key change it.deployments) since ≡ Some row → WasThere it since
changed_was it key change since row is =
    by (is_at (since_cmp key) since) (thing_in since_cmp it.deployments since) refl
    (sym (thing_changed since_cmp since_keys key change it.deployments since) ∙ is)
  where
    by : (b : Bool) (o : Option DepRow) → thing_in since_cmp it.deployments since ≡ o
        → (if b then option_map change (thing_in since_cmp it.deployments since)
        else thing_in since_cmp it.deployments since) ≡ Some row → WasThere it since
    by b (Some old) was is = (old, was)
    by true None was is = absurd (let e : None ≡ Some row = sym (ap (option_map change) was) ∙ is in cc)
    by false None was is = absurd (let e : None ≡ Some row = sym was ∙ is in cc)

without_was : (it : Recorded) (key : Since) → IsOnce since_cmp it.deployments → (since : Since) (row : DepRow)
    → thing_in since_cmp (without since_cmp key it.deployments) since ≡ Some row → WasThere it since
without_was it key once since row is =
    by (is_at (since_cmp key) since)
    (sym (ap (option_and_then (λ place. place)) (found_without since_cmp since_keys key it.deployments once since)) ∙ is)
  where
    by : (b : Bool) → option_and_then (λ (place : Option DepRow). place)
        (if b then None else found since_cmp it.deployments since) ≡ Some row → WasThere it since
    by true is = absurd cc
    by false is = (row, is)

-- places stay where a deployment changes
shared_same : (it : Recorded) (key : Since) (offers : List Offer)
    → SamePlaces it (record it { deployments = changed since_cmp key (with_shared offers) it.deployments })
shared_same it key offers = record {
  works = same_work it;
  stay = λ t w is. (w, is);
  deps = λ t. refl;
  parts = λ i. refl;
  machines = λ name machine is. record { old = machine; is = is; row = refl; sweep = refl };
  orphans = λ d loose is. record { old = loose; is = is; deleting = refl };
  since = λ since row is. changed_was it key (with_shared offers) since row is;
}

-- .. or goes
dropped_same : (it : Recorded) (key : Since) → IsOnce since_cmp it.deployments → SamePlaces it (dropped_at (Some key) it)
dropped_same it key once = record {
  works = same_work it;
  stay = λ t w is. (w, is);
  deps = λ t. refl;
  parts = λ i. by (thing_in since_cmp it.deployments key) i;
  machines = λ name machine is. record { old = machine; is = is; row = refl; sweep = refl };
  orphans = λ d loose is. record { old = loose; is = is; deleting = refl };
  since = λ since row is. without_was it key once since row is;
}
  where
    by : (o : Option DepRow) (i : Inst)
        → option_map_or (λ (known : Instance). known.part)
        (found inst_cmp (option_map_or (λ (row : DepRow). wants_forgotten row.goal.rows it.instances) o it.instances) i)
        no_part
        ≡ part_of it i
    by (Some row) i = (forgotten_same row.goal.rows it.instances).parts i
    by None i = refl

module _ (t : ℕ) (offers : List Offer) (it : Recorded) where
  done_same : IsOnce since_cmp it.deployments → SamePlaces it (deployment_done t offers it)
  done_same once = by (is_some (deployed it t)) (is_deletion it t) (since_of it t)
    where
      by : (a b : Bool) (o : Option Since)
          → SamePlaces it (if a then shared_at o offers it else (if b then dropped_at o it else it))
      by true b (Some key) = shared_same it key offers
      by true b None = same_as_it_is it
      by false true (Some key) = dropped_same it key once
      by false true None = same_as_it_is it
      by false false o = same_as_it_is it

  done_works : (deployment_done t offers it).works ≡ it.works
  done_works = by (is_some (deployed it t)) (is_deletion it t) (since_of it t)
    where
      by : (a b : Bool) (o : Option Since)
          → (if a then shared_at o offers it else (if b then dropped_at o it else it)).works ≡ it.works
      by true b (Some key) = refl
      by true b None = refl
      by false true (Some key) = refl
      by false true None = refl
      by false false o = refl

-- ---- all

module _ (told : Told) (was now : Records) (t : ℕ) (stands : Stands told was) (fits : Fits told (recorded was))
    (learns : Learns was (entries.TaskDone t) now) where
  -- what was recorded, with the room that was made
  abbrev it : Recorded
  it = recorded learns.roomy

  -- .. once its deployment is settled
  abbrev done : Recorded
  done = deployment_done t (offers_after was t) it

  -- what is told of the deployment
  abbrev settled : Told
  settled = record told {
    known = settles (told.known.task t).kind (told.known.task t).goal (dep_of_task told.known t) told.known;
  }

  roomy : Stands told learns.roomy
  roomy = roomy_stands told was (entries.TaskDone t) now learns stands

  fits_roomy : Fits told it
  fits_roomy = subst (Fits told) (sym learns.room) fits

  same : SamePlaces it done
  same = done_same t (offers_after was t) it (once_in since_cmp it.deployments roomy.ordered.deployments)

  fits_settled : Fits settled done
  fits_settled = fits_told told settled done
      (tasks_settled (told.known.task t).kind (told.known.task t).goal (dep_of_task told.known t) told.known)
      (task_settled (told.known.task t).kind (told.known.task t).goal (dep_of_task told.known t) told.known)
      (same_fits it done same told fits_roomy)

  pub done_fits : Fits (telling told (entries.TaskDone t)) (recorded now)
  done_fits =
      subst (Fits (telling told (entries.TaskDone t))) (sym learns.is_learned)
      (subst (λ (change : Change). Fits (telling told (entries.TaskDone t)) (learned (entries.TaskDone t) change it))
      (sym learns.planned)
      (closed_fits t ends.Finished ends.Finished settled done
      (subst (IsOnce nat_cmp) (sym (done_works t (offers_after was t) it)) (once_of roomy.ordered).works)
      (same_listed it done same (are_listed it roomy.linked)) fits_settled))
