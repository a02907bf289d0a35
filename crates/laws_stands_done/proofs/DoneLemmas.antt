-- A task of any kind is done, where that may be noted.
use Rattle.std.proofs.Common.{◌≡◌, ◌∙◌, ℕ, true, false, ◌&&◌, List, [], Option, Some, None, ap, refl, subst, sym}
use Rattle.std.specs.Prelude.{find, is_some, if◌then◌else◌}
use Rattle.std.specs.Option.{option_and_then, option_map, option_map_or}
use Rattle.std.specs.Ordering.{nat_cmp}
use Rattle.std.specs.Str.{bytes_eq}
use Rattle.std.proofs.lemmas.Bool.{le-leb}
use Rattle.bosh_base.specs.declared.entry.Entry.TheVariants as entries
use Rattle.bosh_base.specs.declared.goal.Goal.{Goal}
use Rattle.bosh_base.specs.declared.offer.Offer.{Offer}
use Rattle.bosh_base.specs.declared.snapshot.DepRow.{DepRow}
use Rattle.bosh_base.specs.declared.task.TaskEnd.TheVariants as ends
use Rattle.bosh_base.specs.declared.task.TaskKind.{TaskKind}
use Rattle.bosh_base.specs.declared.task.TaskKind.TheVariants as kinds
use Rattle.bosh_base.specs.declared.task.TaskRow.{TaskRow}
use Rattle.bosh_fold.specs.Learned.{learned}
use Rattle.bosh_fold.specs.Learns.{Learns}
use Rattle.bosh_fold.specs.Tasks.{closed_task, deletes, deployed, deployment_done, dropped_at, is_deletion, shared_at}
use Rattle.bosh_fold.specs.Tasks.{since_of, wants_forgotten}
use Rattle.bosh_fold.specs.declared.change.Change.{Change}
use Rattle.bosh_history.specs.Known.{Known, dep_named, with_task}
use Rattle.bosh_history.specs.Snapshots.{dep_row, task_row}
use Rattle.bosh_history.specs.Tasks.{settles as settled_by}
use Rattle.bosh_history.specs.Words.{at}
use Rattle.bosh_plan.specs.Closed.{offers_after}
use Rattle.bosh_records.specs.Changes.{since_cmp, with_shared}
use Rattle.bosh_records.specs.Kinds.{deploys}
use Rattle.bosh_records.specs.Readers.{deployment_in, since_in}
use Rattle.bosh_records.specs.Recorded.{Recorded, recorded}
use Rattle.bosh_records.specs.Table.{changed, thing_in, without}
use Rattle.bosh_records.specs.declared.records.Records.{Records}
use Rattle.laws_stands.proofs.DeploymentLemmas.{found_row}
use Rattle.laws_stands.specs.Once.{IsOnce}
use Rattle.laws_stands.specs.Reading.{goal_of}
use Rattle.laws_stands.specs.Stands.{Stands, StandsIn, StandsInOrder}
use Rattle.laws_stands.specs.Told.{Told, telling}
use Rattle.laws_stands_closed.proofs.ClosedLemmas.{closed_stands}
use Rattle.laws_stands_closed.specs.Closed.{AllowsClose, told_ended}
use Rattle.laws_stands_done.proofs.DroppedLemmas.{dropped, dropped_stands}
use Rattle.laws_stands_opened.proofs.FirstLemmas.{Stood, first_stood}
use Rattle.laws_stands.proofs.OrderLemmas.{once_in}
use Rattle.laws_stands_done.proofs.OrderLemmas.{altered_in_order, forgotten_in_order, without_in_order}
use Rattle.laws_stands_done.proofs.SharedLemmas.{offered, shared_stands}
use Rattle.laws_stands_fits.proofs.SinceLemmas.{since_keys, since_own}
use Rattle.laws_stands_done.specs.Settles.{Settles}
use Rattle.laws_stands_on.proofs.RoomyLemmas.{roomy_stands}

-- what is recorded of a deployment
abbrev named_row : List ℕ → Goal → List Offer → DepRow
named_row dep goal shared = record { dep = dep; goal = goal; shared = shared }

-- the row of the task, and of its deployment
module _ (told : Told) (t : ℕ) (dep : List ℕ) (goal : Goal) (settles : Settles told t dep goal) where
  abbrev k : Known
  k = told.known

  -- what is recorded of the deployment of the task
  abbrev row : DepRow
  row = named_row dep goal (k.shared dep)

  task_there : (it : Recorded) → StandsIn told it → thing_in nat_cmp it.tasks t ≡ Some (task_row k t)
  task_there it stands = stands.tasks t
      ∙ (λ j. if le-leb 1 t settles.low j && le-leb t k.tasks settles.high j then Some (task_row k t) else None)

  deployment_there : (it : Recorded) → StandsIn told it → deployment_in it.deployments dep ≡ Some row
  deployment_there it stands =
      ap (find (λ (row : DepRow). bytes_eq row.dep dep)) stands.deployments
      ∙ found_row k dep k.deployments
      ∙ (λ j. if settles.listed j then dep_row k dep else None)
      ∙ ap (option_map (λ goal. named_row dep goal (k.shared dep))) settles.current

  -- it stands at one place
  stood : (it : Recorded) → StandsIn told it → IsOnce since_cmp it.deployments
      → Stood since_cmp since_keys since_own (λ (row : DepRow). bytes_eq row.dep dep) it.deployments row
  stood it stands once = first_stood since_cmp since_keys since_own (λ (row : DepRow). bytes_eq row.dep dep)
      it.deployments once row (deployment_there it stands)

  -- ---- a deploy

  module _ (deploy : deploys (k.task t).kind ≡ true) where
    deployed_as : (it : Recorded) → StandsIn told it → deployed it t ≡ Some row
    deployed_as it stands =
        ap (option_and_then (λ (task : TaskRow). if deploys task.kind
        then option_and_then (deployment_in it.deployments) task.dep else None)) (task_there it stands)
        ∙ (λ j. if deploy j then option_and_then (deployment_in it.deployments) (settles.dep_is j) else None)
        ∙ deployment_there it stands

    offers_are : (was : Records) → Stands told was → offers_after was t ≡ goal.offers
    offers_are was stands =
        ap (λ o. option_map_or (λ (row : DepRow). row.goal.offers) o []) (deployed_as (recorded was) stands)

    deploy_done : (was : Records) (it : Recorded) → Stands told was → (stands : StandsIn told it)
        → (once : IsOnce since_cmp it.deployments)
        → deployment_done t (offers_after was t) it
        ≡ record it {
          deployments = changed since_cmp (stood it stands once).key (with_shared goal.offers) it.deployments;
        }
    deploy_done was it before stands once =
        (λ j. if is_some (deployed_as it stands j) then shared_at (since_of it t) (offers_after was t) it
        else (if is_deletion it t then dropped_at (since_of it t) it else it))
        ∙ (λ j. shared_at (since_is j) (offers_are was before j) it)
      where
        since_is : since_of it t ≡ Some (stood it stands once).key
        since_is =
            ap (option_and_then (since_in it.deployments))
            (ap (option_and_then (λ (task : TaskRow). task.dep)) (task_there it stands) ∙ settles.dep_is)
            ∙ (stood it stands once).first

  -- ---- the deletion of a deployment

  module _ (deletion : (k.task t).kind ≡ kinds.DeleteDeployment) where
    none_deployed : (it : Recorded) → StandsIn told it → deployed it t ≡ None
    none_deployed it stands =
        ap (option_and_then (λ (task : TaskRow). if deploys task.kind
        then option_and_then (deployment_in it.deployments) task.dep else None)) (task_there it stands)
        ∙ (λ j. if deploys (deletion j) then option_and_then (deployment_in it.deployments) (k.task t).dep else None)

    deletes_as : (it : Recorded) → StandsIn told it → is_deletion it t ≡ true
    deletes_as it stands =
        ap (λ o. option_map_or (λ (task : TaskRow). deletes task.kind) o false) (task_there it stands)
        ∙ ap deletes deletion

    deletion_done : (offers : List Offer) (it : Recorded) → (stands : StandsIn told it)
        → (once : IsOnce since_cmp it.deployments)
        → deployment_done t offers it
        ≡ record it {
          instances = wants_forgotten goal.rows it.instances;
          deployments = without since_cmp (stood it stands once).key it.deployments;
        }
    deletion_done offers it stands once =
        (λ j. if is_some (none_deployed it stands j) then shared_at (since_of it t) offers it
        else (if deletes_as it stands j then dropped_at (since_of it t) it else it))
        ∙ (λ j. dropped_at (since_is j) it)
        ∙ (λ j. record it {
          instances = option_map_or (λ (row : DepRow). wants_forgotten row.goal.rows it.instances)
              ((stood it stands once).there j) it.instances;
          deployments = without since_cmp (stood it stands once).key it.deployments;
        })
      where
        since_is : since_of it t ≡ Some (stood it stands once).key
        since_is =
            ap (option_and_then (since_in it.deployments))
            (ap (option_and_then (λ (task : TaskRow). task.dep)) (task_there it stands) ∙ settles.dep_is)
            ∙ (stood it stands once).first

-- ---- what is told

module _ (told : Told) (t : ℕ) (dep : List ℕ) (goal : Goal) (settles : Settles told t dep goal) where
  -- what was known before
  abbrev kept : Known
  kept = told.known

  deploy_told : (kind : TaskKind) → deploys kind ≡ true
      → settled_by kind (Some goal) dep kept ≡ record kept { shared = at bytes_eq dep goal.offers kept.shared }
  deploy_told kinds.Deploy deploy = refl
  deploy_told kinds.Fix deploy = refl
  deploy_told kind deploy = absurd cc

  -- the deployment is told of, and then the end of the task
  abbrev by_kind : TaskKind → Option Goal → List ℕ → Told
  by_kind kind goal dep = record told {
    known = with_task t (λ it. record it { end = Some ends.Finished }) (settled_by kind goal dep kept);
  }

  told_as : by_kind (kept.task t).kind (Some goal) dep ≡ telling told (entries.TaskDone t)
  told_as = λ j. by_kind (kept.task t).kind (sym settles.goal_is j) (dep_named (sym settles.dep_is j))

  module _ (allows : AllowsClose told t) (was now : Records) (stands : Stands told was)
      (learns : Learns was (entries.TaskDone t) now) where
    -- what was recorded, with the room that was made
    abbrev it : Recorded
    it = recorded learns.roomy

    roomy : StandsIn told it
    roomy = roomy_stands told was (entries.TaskDone t) now learns stands

    once : IsOnce since_cmp it.deployments
    once = once_in since_cmp it.deployments roomy.ordered.deployments

    -- where the deployment stands
    abbrev place : Stood since_cmp since_keys since_own (λ (row : DepRow). bytes_eq row.dep dep) it.deployments
        (named_row dep goal (kept.shared dep))
    place = stood told t dep goal settles it roomy once

    -- what is learned, once the deployment is settled so
    learned_as : (told : Told) (settled : Recorded) → deployment_done t (offers_after was t) it ≡ settled
        → StandsInOrder told (closed_task t ends.Finished settled) → StandsInOrder told (recorded now)
    learned_as told settled is closed =
        subst (StandsInOrder told) (sym learns.is_learned)
        (subst (λ (change : Change). StandsInOrder told (learned (entries.TaskDone t) change it)) (sym learns.planned)
        (subst (λ (it : Recorded). StandsInOrder told (closed_task t ends.Finished it)) (sym is) closed))

    pub deploy_is_done : deploys (kept.task t).kind ≡ true → Stands (telling told (entries.TaskDone t)) now
    deploy_is_done deploy =
        subst (λ told. StandsInOrder told (recorded now)) told_as
        (subst (λ known. StandsInOrder (record told {
          known = with_task t (λ it. record it { end = Some ends.Finished }) known;
        }) (recorded now)) (sym (deploy_told (kept.task t).kind deploy))
        (learned_as (told_ended t ends.Finished (offered dep goal.offers told it place.key)) shared_it
        (deploy_done told t dep goal settles deploy was it stands roomy once)
        (closed_stands t ends.Finished (offered dep goal.offers told it place.key) shared_it (record {
          none_open = allows.none_open;
          alone = allows.alone;
          asked = allows.asked;
          leaving = allows.leaving;
          changing = allows.changing;
          deleting = allows.deleting;
        })
        (shared_stands dep goal.offers told it place.key roomy once settles.apart place.first (record {
          deployments = altered_in_order since_cmp place.key (option_map (with_shared goal.offers)) it.deployments
              roomy.ordered.deployments;
          instances = roomy.ordered.instances;
          machines = roomy.ordered.machines;
          orphans = roomy.ordered.orphans;
          keys = roomy.ordered.keys;
          tasks = roomy.ordered.tasks;
          works = roomy.ordered.works;
          calls = roomy.ordered.calls;
        }))))) learns.ordered
      where
        shared_it : Recorded
        shared_it =
            record it { deployments = changed since_cmp place.key (with_shared goal.offers) it.deployments }

    current : goal_of it dep ≡ Some goal
    current = ap (option_map (λ (row : DepRow). row.goal)) (deployment_there told t dep goal settles it roomy)

    pub deletion_is_done : (kept.task t).kind ≡ kinds.DeleteDeployment
        → Stands (telling told (entries.TaskDone t)) now
    deletion_is_done deletion =
        subst (λ told. StandsInOrder told (recorded now)) told_as
        (subst (λ kind. StandsInOrder (by_kind kind (Some goal) dep) (recorded now)) (sym deletion)
        (learned_as (told_ended t ends.Finished (dropped dep goal told it place.key)) dropped_it
        (deletion_done told t dep goal settles deletion (offers_after was t) it roomy once)
        (closed_stands t ends.Finished (dropped dep goal told it place.key) dropped_it (record {
          none_open = allows.none_open;
          alone = allows.alone;
          asked = allows.asked;
          leaving = allows.leaving;
          changing = allows.changing;
          deleting = allows.deleting;
        })
        (dropped_stands dep goal told it place.key roomy once settles.apart place.first current settles.wants_own
        (record {
          deployments = without_in_order since_cmp place.key it.deployments roomy.ordered.deployments;
          instances = forgotten_in_order goal.rows it.instances roomy.ordered.instances;
          machines = roomy.ordered.machines;
          orphans = roomy.ordered.orphans;
          keys = roomy.ordered.keys;
          tasks = roomy.ordered.tasks;
          works = roomy.ordered.works;
          calls = roomy.ordered.calls;
        }))))) learns.ordered
      where
        dropped_it : Recorded
        dropped_it = record it {
          instances = wants_forgotten goal.rows it.instances;
          deployments = without since_cmp place.key it.deployments;
        }
