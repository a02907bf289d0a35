-- A task is done that changes nothing of a deployment, where that may be noted.
use Rattle.std.proofs.Common.{◌≡◌, ◌∙◌, ℕ, true, false, ◌&&◌, List, Option, Some, None, ap, refl, subst, sym}
use Rattle.std.specs.Prelude.{is_some, nat_le, if◌then◌else◌}
use Rattle.std.specs.Option.{option_and_then, option_map_or}
use Rattle.std.specs.Ordering.{nat_cmp}
use Rattle.std.proofs.lemmas.Bool.{le-leb}
use Rattle.bosh_base.specs.declared.entry.Entry.TheVariants as entries
use Rattle.bosh_base.specs.declared.goal.Goal.{Goal}
use Rattle.bosh_base.specs.declared.offer.Offer.{Offer}
use Rattle.bosh_base.specs.declared.task.TaskEnd.TheVariants as ends
use Rattle.bosh_base.specs.declared.task.TaskKind.{TaskKind}
use Rattle.bosh_base.specs.declared.task.TaskKind.TheVariants as kinds
use Rattle.bosh_base.specs.declared.task.TaskRow.{TaskRow}
use Rattle.bosh_fold.specs.Learned.{learned}
use Rattle.bosh_fold.specs.Learns.{Learns}
use Rattle.bosh_fold.specs.Tasks.{closed_task, deletes, deployed, deployment_done, dropped_at, is_deletion, shared_at, since_of}
use Rattle.bosh_fold.specs.declared.change.Change.{Change}
use Rattle.bosh_history.specs.Known.{Known, dep_of_task, with_task}
use Rattle.bosh_history.specs.Moments.{Moment}
use Rattle.bosh_history.specs.Notes.{EndsTask}
use Rattle.bosh_history.specs.Recovered.{may_follow}
use Rattle.bosh_history.specs.Snapshots.{task_row}
use Rattle.bosh_history.specs.Tasks.{settles}
use Rattle.bosh_plan.specs.Closed.{offers_after}
use Rattle.bosh_records.specs.Kinds.{deploys}
use Rattle.bosh_records.specs.Readers.{deployment_in}
use Rattle.bosh_records.specs.Recorded.{Recorded, recorded}
use Rattle.bosh_records.specs.Table.{thing_in}
use Rattle.bosh_records.specs.declared.records.Records.{Records}
use Rattle.laws_choices.proofs.SameCallLemmas.{told_is}
use Rattle.laws_facts.proofs.CurrentLemmas.{done_works}
use Rattle.laws_facts.specs.KnownFacts.{KnownFacts}
use Rattle.laws_facts.specs.Owners.{works}
use Rattle.laws_items.proofs.ListedLemmas.{WorksAt, works_at}
use Rattle.laws_stands.specs.Agrees.{Agrees}
use Rattle.laws_stands.specs.Stands.{Stands, StandsIn, StandsInOrder}
use Rattle.laws_stands.specs.Told.{Told, telling}
use Rattle.laws_stands_closed.proofs.ClosedLemmas.{closed_stands}
use Rattle.laws_stands_closed.specs.Closed.{AllowsClose, told_ended}
use Rattle.laws_stands_noted.proofs.FailedLemmas.{allows_close}
use Rattle.laws_stands_noted.specs.Settling.{settles_nothing}
use Rattle.laws_stands_on.proofs.RoomyLemmas.{roomy_stands}

none_settled : (kind : TaskKind) (goal : Option Goal) (dep : List ℕ) (k : Known) → settles_nothing kind ≡ true
    → settles kind goal dep k ≡ k
none_settled kinds.Deploy goal dep k none = absurd cc
none_settled kinds.Fix goal dep k none = absurd cc
none_settled kinds.DeleteDeployment goal dep k none = absurd cc
none_settled kind goal dep k none = refl

no_deploy : (kind : TaskKind) → settles_nothing kind ≡ true → (deploys kind ≡ false) × (deletes kind ≡ false)
no_deploy kinds.Deploy none = absurd cc
no_deploy kinds.Fix none = absurd cc
no_deploy kinds.DeleteDeployment none = absurd cc
no_deploy kind none = (refl, refl)

module _ (m : Moment) (told : Told) (was now : Records) (t : ℕ) (stands : Stands told was) (agrees : Agrees m told)
    (facts : KnownFacts m) (noted : EndsTask m t) (follows : may_follow m (entries.TaskDone t) ≡ true)
    (nothing : settles_nothing (m.known.task t).kind ≡ true) (learns : Learns was (entries.TaskDone t) now) where
  working : works m t ≡ true
  working = done_works m t follows noted.is_open

  abbrev it : Recorded
  it = recorded learns.roomy

  roomy : StandsIn told it
  roomy = roomy_stands told was (entries.TaskDone t) now learns stands

  allows : AllowsClose told t
  allows = subst (λ told. AllowsClose told t) (sym (told_is m told t facts working agrees stands.tells_well))
      (allows_close m told.snapped t facts working noted.no_call)

  none_told : settles_nothing (told.known.task t).kind ≡ true
  none_told = ap (λ k. settles_nothing (k.task t).kind) agrees.known_is ∙ nothing

  told_same : told_ended t ends.Finished told ≡ telling told (entries.TaskDone t)
  told_same = λ j. record told {
    known = with_task t (λ it. record it { end = Some ends.Finished })
        (sym (none_settled (told.known.task t).kind (told.known.task t).goal (dep_of_task told.known t)
        told.known none_told) j);
  }

  row_is : thing_in nat_cmp it.tasks t ≡ Some (task_row told.known t)
  row_is = roomy.tasks t ∙ by (works_at m t working)
    where
      by : WorksAt m t → (if nat_le 1 t && nat_le t told.known.tasks then Some (task_row told.known t) else None)
          ≡ Some (task_row told.known t)
      by at =
          (λ j. if nat_le 1 t && nat_le t (agrees.known_is j).tasks then Some (task_row told.known t) else None)
          ∙ (λ j. if le-leb 1 t at.low j && le-leb t m.known.tasks at.high j then Some (task_row told.known t) else None)

  none_deployed : deployed it t ≡ None
  none_deployed =
      ap (option_and_then (λ (row : TaskRow). if deploys row.kind
      then option_and_then (deployment_in it.deployments) row.dep else None)) row_is
      ∙ (λ j. if (no_deploy (told.known.task t).kind none_told).0 j
      then option_and_then (deployment_in it.deployments) (told.known.task t).dep else None)

  none_deleted : is_deletion it t ≡ false
  none_deleted = ap (λ o. option_map_or (λ (row : TaskRow). deletes row.kind) o false) row_is
      ∙ (no_deploy (told.known.task t).kind none_told).1

  nothing_done : (offers : List Offer) → deployment_done t offers it ≡ it
  nothing_done offers = λ j. if is_some (none_deployed j) then shared_at (since_of it t) offers it
      else (if none_deleted j then dropped_at (since_of it t) it else it)

  pub task_done : Stands (telling told (entries.TaskDone t)) now
  task_done =
      subst (λ told. StandsInOrder told (recorded now)) told_same
      (subst (StandsInOrder (told_ended t ends.Finished told)) (sym learns.is_learned)
      (subst (λ (change : Change). StandsInOrder (told_ended t ends.Finished told)
      (learned (entries.TaskDone t) change it)) (sym learns.planned)
      (subst (λ (it : Recorded). StandsInOrder (told_ended t ends.Finished told) (closed_task t ends.Finished it))
      (sym (nothing_done (offers_after was t))) (closed_stands t ends.Finished told it allows roomy)))) learns.ordered
