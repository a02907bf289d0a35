-- A task that is planned over records is the one that is due by what is known.
use Rattle.std.proofs.Common.{◌≡◌, ◌∙◌, ℕ, ◌+◌, Bool, true, false, List, [], ◌∷◌, Option, Some, None, Ok}
use Rattle.std.proofs.Common.{ap, map, refl, subst, sym}
use Rattle.std.specs.Prelude.{filter, if◌then◌else◌}
use Rattle.std.specs.Option.{option_eq}
use Rattle.std.specs.Str.{bytes_eq}
use Rattle.bosh_asks.specs.Asked.{dep_of, halting, kind_of}
use Rattle.bosh_asks.specs.Goals.{nothing}
use Rattle.bosh_asks.specs.Known.{is_wanted, lock_holder}
use Rattle.bosh_asks.specs.Opened.{CleansUp, Deletes, disks_alone, plan_of}
use Rattle.bosh_asks.specs.Over.{AltersOver, DeletesOver, DeploysOver}
use Rattle.bosh_asks.specs.declared.ask.Ask.{Ask}
use Rattle.bosh_asks.specs.declared.ask.Ask.TheVariants as asks
use Rattle.bosh_base.specs.declared.entry.TaskOpen.{TaskOpen}
use Rattle.bosh_base.specs.declared.goal.Goal.{Goal}
use Rattle.bosh_base.specs.declared.inst.Inst.{Inst}
use Rattle.bosh_base.specs.declared.state.State.TheVariants.{Running}
use Rattle.bosh_base.specs.declared.task.TaskKind.TheVariants as kinds
use Rattle.bosh_due.specs.Openings.{disks_of, opening_with}
use Rattle.bosh_due.specs.Plans.{PlansDeploy, alteration_plan}
use Rattle.bosh_goal.specs.declared.change.Change.{Change}
use Rattle.bosh_goal.specs.declared.change.Change.TheVariants as changes
use Rattle.bosh_history.specs.Goals.{does_not_stand, inst_of, rows_of, to_change, to_delete}
use Rattle.bosh_history.specs.Known.{Known, dep_named}
use Rattle.bosh_history.specs.Openings.{MayOpen, OpensBy, OpensDisks, OpensFor, OpensOn, OpensWith}
use Rattle.bosh_records.specs.declared.records.Records.{Records}
use Rattle.laws_planned.proofs.PlanLemmas.{planned_change, planned_clean_up, planned_deletion, planned_deploy, planned_disk}
use Rattle.laws_planned.specs.Planned.{PlansAsk}
use Rattle.laws_planned.specs.Read.{ArePlannedOver}
use Rattle.laws_stands.proofs.DeploymentLemmas.{bytes_is}
use Rattle.laws_views.specs.Planned.{IsPlanned}

module _ (k : Known) (records : Records) (ask : Ask) (o : TaskOpen)
    (is_planned : IsPlanned records ask o) (number : o.task ≡ k.tasks + 1) where
  -- its parts are those of the task that is due
  whole : o.changed ≡ to_change k (kind_of ask) o.goal
      → o.obsolete ≡ to_delete k (kind_of ask) (dep_named (dep_of ask)) o.goal → o.disks ≡ disks_of k ask
      → o ≡ opening_with k ask o.goal
  whole changed obsolete disks = λ i. record {
    task = number i;
    kind = is_planned.opens.kind i;
    dep = is_planned.opens.dep i;
    goal = o.goal;
    changed = changed i;
    obsolete = obsolete i;
    disks = disks i;
    source = is_planned.opens.source i;
  }

  -- a task of a deployment
  with_goal : (dep : List ℕ) (goal : Goal) → dep_of ask ≡ Some dep → disks_of k ask ≡ [] → o.goal ≡ Some goal
      → OpensFor k o o.goal → o ≡ opening_with k ask o.goal
  with_goal dep goal dep_is no_disks goal_is opens =
      whole (may.changes ∙ ap (λ kind. to_change k kind o.goal) is_planned.opens.kind)
      (may.deletes ∙ (λ i. to_delete k (is_planned.opens.kind i) (same_dep i) o.goal)) (may.no_disks ∙ sym no_disks)
    where
      may : OpensWith k o goal
      may = subst (OpensFor k o) goal_is opens

      same_dep : goal.dep ≡ dep_named (dep_of ask)
      same_dep = sym (bytes_is dep goal.dep
          (sym (ap (λ d. option_eq bytes_eq d (Some goal.dep)) (is_planned.opens.dep ∙ dep_is)) ∙ may.of_the_deployment))
          ∙ sym (ap dep_named dep_is)

  -- a task that deletes disks
  on_disks : (disks : List ℕ) → to_delete k (kind_of ask) (dep_named (dep_of ask)) o.goal ≡ []
      → ((goal : Option Goal) → goal ≡ None → to_change k (kind_of ask) goal ≡ []) → o.goal ≡ None
      → OpensOn k o → o.disks ≡ disks_of k ask → o ≡ opening_with k ask o.goal
  on_disks disks deletes changes none may are =
      whole (may.changes_none ∙ sym (changes o.goal none)) (may.deletes_none ∙ sym deletes) are

pub opens_as : (k : Known) (records : Records) (ask : Ask) (o : TaskOpen) → IsPlanned records ask o
    → o.task ≡ k.tasks + 1 → MayOpen k o → o ≡ opening_with k ask o.goal
opens_as k records (asks.Deploy it) o planned number may =
    by it.fix (subst (OpensBy k o) planned.opens.kind may)
  where
    by : (fix : Bool) → OpensBy k o (if fix then kinds.Fix else kinds.Deploy) → o ≡ opening_with k (asks.Deploy it) o.goal
    by true may = with_goal k records (asks.Deploy it) o planned number it.manifest.name planned.over.goal refl refl
        planned.over.is may
    by false may = with_goal k records (asks.Deploy it) o planned number it.manifest.name planned.over.goal refl refl
        planned.over.is may
opens_as k records (asks.Recreate inst) o planned number may =
    with_goal k records (asks.Recreate inst) o planned number inst.dep planned.over.goal refl refl planned.over.is
    (subst (OpensBy k o) planned.opens.kind may)
opens_as k records (asks.Start inst) o planned number may =
    with_goal k records (asks.Start inst) o planned number inst.dep planned.over.goal refl refl planned.over.is
    (subst (OpensBy k o) planned.opens.kind may)
opens_as k records (asks.Halt inst hard) o planned number may =
    with_goal k records (asks.Halt inst hard) o planned number inst.dep planned.over.goal refl refl planned.over.is
    (subst (OpensBy k o) planned.opens.kind may)
opens_as k records (asks.Resolve inst) o planned number may =
    with_goal k records (asks.Resolve inst) o planned number inst.dep planned.over.goal refl refl planned.over.is
    (subst (OpensBy k o) planned.opens.kind may)
opens_as k records (asks.DeleteDeployment dep) o planned number may =
    with_goal k records (asks.DeleteDeployment dep) o planned number dep (nothing dep) refl refl does.goal
    (subst (OpensBy k o) planned.opens.kind may)
  where
    does : Deletes dep (plan_of o)
    does = planned.opens.does
opens_as k records (asks.DeleteDisk disk) o planned number may =
    on_disks k records (asks.DeleteDisk disk) o planned number (disk ∷ []) refl
    (λ goal none. ap (λ goal. map inst_of (filter (does_not_stand k) (rows_of goal))) none) none
    (subst (OpensDisks k o) none opens.0) opens.1
  where
    does : plan_of o ≡ disks_alone (disk ∷ [])
    does = planned.opens.does

    none : o.goal ≡ None
    none = λ i. (does i).goal

    opens : OpensBy k o (kinds.DeleteDisk disk)
    opens = subst (OpensBy k o) planned.opens.kind may
opens_as k records asks.CleanUp o planned number may =
    on_disks k records asks.CleanUp o planned number k.orphans refl
    (λ goal none. ap (λ goal. map inst_of (filter (does_not_stand k) (rows_of goal))) none) none
    (subst (OpensDisks k o) none opens.0) opens.1
  where
    does : CleansUp (plan_of o)
    does = planned.opens.does

    none : o.goal ≡ None
    none = λ i. (does.1 i).goal

    opens : OpensBy k o kinds.CleanUp
    opens = subst (OpensBy k o) planned.opens.kind may

-- .. of one instance
altered : (k : Known) (records : Records) (over : ArePlannedOver k records) (inst : Inst) (change : Change) (o : TaskOpen)
    → is_wanted records inst ≡ true → lock_holder records (Some inst.dep) ≡ None → AltersOver records inst change (plan_of o)
    → Ok o.goal ≡ alteration_plan k inst change
altered k records over inst change o wanted free does =
    ap Ok does.is ∙ planned_change k records over inst change does.goal wanted free does.given

-- its goal is planned for what is asked
pub plans_as : (k : Known) (records : Records) (over : ArePlannedOver k records) (ask : Ask) (o : TaskOpen)
    → IsPlanned records ask o → PlansAsk k ask (Ok o.goal)
plans_as k records over (asks.Deploy it) o planned =
    subst (λ goal. PlansDeploy k it (Ok goal)) (sym does.is)
    (planned_deploy k records over it does.goal planned.free does.given does.kept does.room)
  where
    does : DeploysOver records it (plan_of o)
    does = planned.over
plans_as k records over (asks.Recreate inst) o planned = altered k records over inst changes.Fresh o planned.named planned.free planned.over
plans_as k records over (asks.Start inst) o planned = altered k records over inst (changes.To Running) o planned.named planned.free planned.over
plans_as k records over (asks.Halt inst hard) o planned = altered k records over inst (halting hard) o planned.named planned.free planned.over
plans_as k records over (asks.Resolve inst) o planned = altered k records over inst changes.Same o planned.named planned.free planned.over
plans_as k records over (asks.DeleteDeployment dep) o planned =
    ap Ok does.goal ∙ planned_deletion k records over dep planned.named planned.free deletes.kept
  where
    does : Deletes dep (plan_of o)
    does = planned.opens.does

    deletes : DeletesOver records dep (plan_of o)
    deletes = planned.over
plans_as k records over (asks.DeleteDisk disk) o planned =
    ap Ok (λ i. (does i).goal) ∙ planned_disk k records over disk planned.named planned.free
  where
    does : plan_of o ≡ disks_alone (disk ∷ [])
    does = planned.opens.does
plans_as k records over asks.CleanUp o planned = ap Ok (λ i. (does.1 i).goal) ∙ planned_clean_up k records over planned.free
  where
    does : CleansUp (plan_of o)
    does = planned.opens.does
