-- The groups of a task that opens stand for its changed instances, of which none has begun.
use Rattle.std.proofs.Common.{◌≡◌, ◌∙◌, ℕ, Bool, true, false, ◌&&◌, List, [], ◌∷◌, map, Option, Some, None}
use Rattle.std.proofs.Common.{ap, refl, sym}
use Rattle.std.specs.Prelude.{find, fold, length, replicate}
use Rattle.std.specs.List.{enumerate_from}
use Rattle.std.specs.Option.{option_and_then}
use Rattle.std.specs.Str.{bytes_eq}
use Rattle.bosh_base.specs.declared.entry.TaskOpen.{TaskOpen}
use Rattle.bosh_base.specs.declared.goal.Goal.{Goal}
use Rattle.bosh_base.specs.declared.goal.GroupPlan.{GroupPlan}
use Rattle.bosh_base.specs.declared.inst.Inst.{Inst}
use Rattle.bosh_base.specs.declared.task.TaskKind.{TaskKind}
use Rattle.bosh_base.specs.declared.task.TaskKind.TheVariants as kinds
use Rattle.bosh_history.specs.Goals.{canaries_of, changed_in, is_waiting, limit_of}
use Rattle.bosh_history.specs.Items.{stage_of}
use Rattle.bosh_history.specs.Known.{Known, Task}
use Rattle.bosh_history.specs.Tasks.{task_opened}
use Rattle.bosh_plan.specs.Grouping.{groups_by, plan_for, planned, rolling_by, with_member}
use Rattle.bosh_plan.specs.Grouping as grouping
use Rattle.bosh_roll.specs.Upd.{is_busy}
use Rattle.bosh_work.specs.declared.groups.GroupWork.{GroupWork}
use Rattle.laws_stands.specs.GroupsStand.{EachStands, GroupStands, GroupsStand, names_of, plan_named}
use Rattle.laws_stands_works.proofs.GroupedLemmas.{EachBuilt, IsBuilt, all_built, first_as}
use Rattle.laws_stands_works.proofs.NameLemmas.{as_many}

-- all have the same mark
same_marks : {T : Type 0} (b : Bool) (f : T → Bool) (xs : List T) → ((x : T) → f x ≡ b)
    → replicate (length xs) b ≡ map f xs
same_marks b f [] all = refl
same_marks b f (x ∷ xs) all = λ i. sym (all x) i ∷ same_marks b f xs all i

module _ (k : Known) (o : TaskOpen) (idle : Inst → Bool) where
  abbrev t : Task
  t = task_opened k o

  canaries_as : (kind : TaskKind) (plan : Option GroupPlan) (n : ℕ)
      → (rolling_by kind plan n).canaries ≡ canaries_of (record t { kind = kind }) plan
  canaries_as (kinds.Recreate i) plan n = refl
  canaries_as (kinds.Start i) plan n = refl
  canaries_as (kinds.Stop i) plan n = refl
  canaries_as (kinds.Resolve i) plan n = refl
  canaries_as kind (Some plan) n = refl
  canaries_as kind None n = refl

  limit_as : (kind : TaskKind) (plan : Option GroupPlan) (n : ℕ)
      → (rolling_by kind plan n).limit ≡ limit_of (record t { kind = kind }) plan
  limit_as (kinds.Recreate i) plan n = refl
  limit_as (kinds.Start i) plan n = refl
  limit_as (kinds.Stop i) plan n = refl
  limit_as (kinds.Resolve i) plan n = refl
  limit_as kind (Some plan) n = refl
  limit_as kind None n = refl

  waiting_as : (kind : TaskKind) (plan : Option GroupPlan) (n : ℕ)
      → (rolling_by kind plan n).waiting ≡ replicate n true
  waiting_as (kinds.Recreate i) plan n = refl
  waiting_as (kinds.Start i) plan n = refl
  waiting_as (kinds.Stop i) plan n = refl
  waiting_as (kinds.Resolve i) plan n = refl
  waiting_as kind (Some plan) n = refl
  waiting_as kind None n = refl

  busy_as : (kind : TaskKind) (plan : Option GroupPlan) (n : ℕ)
      → (rolling_by kind plan n).busy ≡ replicate n false
  busy_as (kinds.Recreate i) plan n = refl
  busy_as (kinds.Start i) plan n = refl
  busy_as (kinds.Stop i) plan n = refl
  busy_as (kinds.Resolve i) plan n = refl
  busy_as kind (Some plan) n = refl
  busy_as kind None n = refl

  idle_as : (kind : TaskKind) (plan : Option GroupPlan) (n : ℕ)
      → (rolling_by kind plan n).idle ≡ replicate n false
  idle_as (kinds.Recreate i) plan n = refl
  idle_as (kinds.Start i) plan n = refl
  idle_as (kinds.Stop i) plan n = refl
  idle_as (kinds.Resolve i) plan n = refl
  idle_as kind (Some plan) n = refl
  idle_as kind None n = refl

  stage_as : (plan : Option GroupPlan) → grouping.stage_of plan ≡ stage_of plan
  stage_as (Some plan) = refl
  stage_as None = refl

  -- its plan is that of its first instance
  plan_as : (group : List ℕ) (it : GroupWork) → IsBuilt o.changed o.changed group it
      → plan_for o it ≡ plan_named o.goal group
  plan_as group it built =
      ap (option_and_then (λ (inst : Inst). option_and_then
      (λ (goal : Goal). find (λ (plan : GroupPlan). bytes_eq plan.name inst.group) goal.groups) o.goal))
      (first_as o.changed o.changed group it built)
      ∙ ap (plan_named o.goal) built.group_is

  many : (group : List ℕ) (it : GroupWork) → IsBuilt o.changed o.changed group it
      → length it.places ≡ length (changed_in t group)
  many group it built = ap length built.places_are ∙ as_many 0 o.changed group

  group_stands : (group : List ℕ) (it : GroupWork) → IsBuilt o.changed o.changed group it
      → GroupStands t idle group (planned o it)
  group_stands group it built = record {
    stage_is = stage_as (plan_for o it) ∙ ap stage_of (plan_as group it built);
    canaries_are = canaries_as o.kind (plan_for o it) (length it.places)
        ∙ ap (canaries_of t) (plan_as group it built);
    limit_is = limit_as o.kind (plan_for o it) (length it.places) ∙ ap (limit_of t) (plan_as group it built);
    places_are = built.places_are;
    waiting_are = waiting_as o.kind (plan_for o it) (length it.places)
        ∙ ap (λ n. replicate n true) (many group it built)
        ∙ same_marks true (λ i. is_waiting (t.upd i)) (changed_in t group) (λ i. refl);
    busy_are = busy_as o.kind (plan_for o it) (length it.places)
        ∙ ap (λ n. replicate n false) (many group it built)
        ∙ same_marks false (λ i. is_busy (t.upd i)) (changed_in t group) (λ i. refl);
    idle_are = idle_as o.kind (plan_for o it) (length it.places)
        ∙ ap (λ n. replicate n false) (many group it built)
        ∙ same_marks false (λ i. is_busy (t.upd i) && idle i) (changed_in t group) (λ i. refl);
  }

  each_stands : (names : List (List ℕ)) (groups : List GroupWork) → EachBuilt o.changed o.changed names groups
      → EachStands t idle names (map (planned o) groups)
  each_stands [] [] each = tt
  each_stands (group ∷ names) (it ∷ groups) (built, each) = (group_stands group it built, each_stands names groups each)
  each_stands [] (it ∷ groups) each = absurd each
  each_stands (group ∷ names) [] each = absurd each

  pub groups_stand : GroupsStand t idle (groups_by o)
  groups_stand = each_stands (names_of o.changed) (fold (with_member o.changed) [] (enumerate_from 0 o.changed))
      (all_built o.changed [] o.changed refl [] tt)
