-- The goal of a task that is planned over records that stand may be worked on.
use Rattle.std.proofs.Common.{◌≡◌, ◌∙◌, ℕ, Bool, true, false, List, Option, Some, None, Result, Ok, Err, ap, arith, length, not, refl, subst, sym}
use Rattle.std.specs.Prelude.{◌≤◌, [], if◌then◌else◌}
use Rattle.std.specs.Str.{bytes_eq}
use Rattle.std.proofs.lemmas.Bool.{and_from, le-leb}
use Rattle.bosh_asks.specs.Asked.{halting}
use Rattle.bosh_asks.specs.Goals.{if_checked, if_read, nothing, recorded_config}
use Rattle.bosh_asks.specs.Opened.{plan_of}
use Rattle.bosh_asks.specs.Known.{is_wanted}
use Rattle.bosh_asks.specs.Over.{DeploysOver, GivesOver, RenewsOver}
use Rattle.bosh_asks.specs.declared.ask.Ask.{Ask}
use Rattle.bosh_asks.specs.declared.ask.Ask.TheVariants as asks
use Rattle.bosh_asks.specs.declared.ask.Deploy.{Deploy}
use Rattle.bosh_bands.specs.Apart.{AreApart}
use Rattle.bosh_base.specs.declared.entry.Entry.TheVariants as entries
use Rattle.bosh_base.specs.declared.entry.TaskOpen.{TaskOpen}
use Rattle.bosh_base.specs.declared.goal.Goal.{Goal}
use Rattle.bosh_base.specs.declared.inst.Inst.{Inst}
use Rattle.bosh_base.specs.declared.state.State.TheVariants.{Running}
use Rattle.bosh_base.specs.declared.task.TaskKind.{TaskKind}
use Rattle.bosh_base.specs.declared.task.TaskKind.TheVariants as kinds
use Rattle.bosh_cloudcfg.proofs.ApartLemmas.{configured_apart}
use Rattle.bosh_cloudcfg.specs.Check.{config_of_tree}
use Rattle.bosh_cloudcfg.specs.declared.config.Config.{Config}
use Rattle.bosh_cloudcfg.specs.declared.fault.ConfigFault.{ConfigFault}
use Rattle.bosh_goal.specs.Goal.{IsGoal}
use Rattle.bosh_goal.specs.declared.change.Change.{Change}
use Rattle.bosh_goal.specs.declared.change.Change.TheVariants as changes
use Rattle.bosh_history.specs.Goals.{is_in, named_instance}
use Rattle.bosh_history.specs.Held.{view}
use Rattle.bosh_history.specs.Items.{slots_of}
use Rattle.bosh_history.specs.Known.{Known}
use Rattle.bosh_history.specs.Moments.{Moment}
use Rattle.bosh_history.specs.Openings.{MayOpen}
use Rattle.bosh_history.specs.Sound as sound
use Rattle.bosh_history.specs.Sound.{is_sound, is_sound_goal}
use Rattle.bosh_manifest.specs.Sound as manifests
use Rattle.bosh_manifest_names.specs.declared.fault.GoalFault.TheVariants.{NoConfig}
use Rattle.bosh_records.specs.declared.records.Records.{Records}
use Rattle.bosh_views.specs.View.{view_of}
use Rattle.bosh_yaml.specs.Reading.{reading}
use Rattle.bosh_yaml.specs.Tree.{Tree}
use Rattle.bosh_yaml.specs.declared.fault.ReadFault.{ReadFault}
use Rattle.laws_facts.proofs.GoalLemmas.{OpensOf, of_dep, of_none, opens_of}
use Rattle.laws_facts.specs.KnownFacts.{KnownFacts}
use Rattle.laws_goals.proofs.RecordLemmas.{is-sound}
use Rattle.laws_stands.proofs.DeploymentLemmas.{bytes_is}
use Rattle.laws_views.proofs.OrderlyLemmas.{in_order}
use Rattle.laws_views.proofs.ViewedLemmas.{KeepsViewed}
use Rattle.laws_views.specs.Planned.{IsChecked, IsPlanned}

-- ---- the cloud config

-- the subnets of one that is recorded have no address in common
pub config_apart : (file : Option (List ℕ)) (config : Config) → recorded_config file ≡ Some config
    → AreApart config.plan.subnets
config_apart None config is = absurd cc
config_apart (Some bytes) config is = read (reading bytes) is
  where
    checked : (tree : Tree) (answer : Result Config ConfigFault) → config_of_tree tree ≡ answer
        → if_checked answer ≡ Some config → AreApart config.plan.subnets
    checked tree (Ok it) answered is =
        configured_apart tree config (answered ∙ ap Ok (let same : it ≡ config = cc in same))
    checked tree (Err fault) answered is = absurd cc

    read : (answer : Result Tree ReadFault) → if_read answer ≡ Some config → AreApart config.plan.subnets
    read (Ok tree) is = checked tree (config_of_tree tree) refl is
    read (Err fault) is = absurd cc

-- ---- goals

-- it may be worked on, whatever it is called and however many slots it has
abbrev pub is_goal_sound : Known → TaskKind → Option Goal → Bool
is_goal_sound k kind (Some goal) = is_sound_goal k kind goal
is_goal_sound k kind None = true

-- the goal that a task opens with is such
sound_with : (k : Known) (o : TaskOpen) (kind : TaskKind) (goal : Goal) → o.kind ≡ kind → o.goal ≡ Some goal
    → is_sound_goal k kind goal ≡ true → is_goal_sound k o.kind o.goal ≡ true
sound_with k o kind goal kind_is goal_is is = (λ i. is_goal_sound k (kind_is i) (goal_is i)) ∙ is

-- one without a goal has nothing to be sound
sound_without : (k : Known) (o : TaskOpen) → o.goal ≡ None → is_goal_sound k o.kind o.goal ≡ true
sound_without k o none = λ i. is_goal_sound k o.kind (none i)

-- so it may be worked on where it has a name and few slots
pub sound_in_bounds : (k : Known) (o : TaskOpen) → MayOpen k o → KeepsViewed (entries.TaskOpen o)
    → is_goal_sound k o.kind o.goal ≡ true → sound.IsSound k o
sound_in_bounds k o may keeps is = by (opens_of k o may)
  where
    by : OpensOf o → sound.IsSound k o
    by (of_dep dep goal dep_is goal_is same) =
        (λ i. is_sound k (record o { goal = goal_is i }))
        ∙ and_from (is_sound_goal k o.kind goal) _ ((λ i. is_goal_sound k o.kind (sym goal_is i)) ∙ is)
        (and_from (not (bytes_eq goal.dep [])) _ (named (bytes_eq goal.dep []) refl)
        (le-leb (length goal.slots) 4294967296
        (subst (λ goal. length (slots_of goal) ≤ 4294967296) goal_is keeps.1)))
      where
        named : (b : Bool) → bytes_eq goal.dep [] ≡ b → not b ≡ true
        named false apart = refl
        named true is_empty = absurd (keeps.0 (dep_is ∙ ap Some (sym same ∙ bytes_is goal.dep [] is_empty)))
    by (of_none dep_is goal_is) = λ i. is_sound k (record o { goal = goal_is i })

-- a deploy
sound_deploy : (m : Moment) (records : Records) → KnownFacts m → (it : Deploy)
    → view_of records it.manifest.name ≡ view m.known it.manifest.name → manifests.IsSound it.manifest
    → (goal : Goal) → GivesOver records it (Ok goal)
    → (is_sound_goal m.known kinds.Deploy goal ≡ true) × (is_sound_goal m.known kinds.Fix goal ≡ true)
sound_deploy m records facts it viewed checked goal given =
    by (recorded_config records.config) refl
    (subst (λ seen. IsGoal it.manifest (recorded_config records.config) records.releases.items records.stemcells.items seen
    it.recreate (Ok goal)) viewed given.goal)
  where
    by : (config : Option Config) → recorded_config records.config ≡ config
        → IsGoal it.manifest config records.releases.items records.stemcells.items (view m.known it.manifest.name) it.recreate
        (Ok goal)
        → (is_sound_goal m.known kinds.Deploy goal ≡ true) × (is_sound_goal m.known kinds.Fix goal ≡ true)
    by (Some config) is told =
        is-sound it.manifest config records.releases.items records.stemcells.items m.known it.recreate goal checked
        (config_apart records.config config is) (in_order m facts it.manifest.name) told
    by None is (works, needed, answer) = absurd (let refused : Err NoConfig ≡ Ok goal = answer in cc)

-- the deletion of a deployment
sound_nothing : (k : Known) (dep : List ℕ) → is_sound_goal k kinds.DeleteDeployment (nothing dep) ≡ true
sound_nothing k dep = refl

-- one that is planned may be worked on, where the goals of tasks of one instance may
pub sound_planned : (m : Moment) (records : Records) → KnownFacts m
    → ((dep : List ℕ) → view_of records dep ≡ view m.known dep)
    → ((kind : TaskKind) (inst : Inst) (change : Change) (goal : Goal) → named_instance kind ≡ Some inst
    → is_in (m.known.goal inst.dep) inst ≡ true → RenewsOver records inst change (Ok goal)
    → is_sound_goal m.known kind goal ≡ true)
    → (wanted : (i : Inst) → is_wanted records i ≡ is_in (m.known.goal i.dep) i)
    → (ask : Ask) (o : TaskOpen) → IsChecked ask → IsPlanned records ask o → is_goal_sound m.known o.kind o.goal ≡ true
sound_planned m records facts viewed renewed wanted (asks.Deploy it) o checked planned =
    by it.fix planned.opens.kind
  where
    over : DeploysOver records it (plan_of o)
    over = planned.over

    by : (fix : Bool) → o.kind ≡ (if fix then kinds.Fix else kinds.Deploy) → is_goal_sound m.known o.kind o.goal ≡ true
    by true kind = sound_with m.known o kinds.Fix over.goal kind over.is
        (sound_deploy m records facts it (viewed it.manifest.name) checked over.goal over.given).1
    by false kind = sound_with m.known o kinds.Deploy over.goal kind over.is
        (sound_deploy m records facts it (viewed it.manifest.name) checked over.goal over.given).0
sound_planned m records facts viewed renewed wanted (asks.Recreate inst) o checked planned =
    sound_with m.known o (kinds.Recreate inst) (planned.over).goal planned.opens.kind (planned.over).is
    (renewed (kinds.Recreate inst) inst changes.Fresh (planned.over).goal refl (sym (wanted inst) ∙ planned.named) (planned.over).given)
sound_planned m records facts viewed renewed wanted (asks.Start inst) o checked planned =
    sound_with m.known o (kinds.Start inst) (planned.over).goal planned.opens.kind (planned.over).is
    (renewed (kinds.Start inst) inst (changes.To Running) (planned.over).goal refl (sym (wanted inst) ∙ planned.named)
    (planned.over).given)
sound_planned m records facts viewed renewed wanted (asks.Halt inst hard) o checked planned =
    sound_with m.known o (kinds.Stop inst) (planned.over).goal planned.opens.kind (planned.over).is
    (renewed (kinds.Stop inst) inst (halting hard) (planned.over).goal refl (sym (wanted inst) ∙ planned.named)
    (planned.over).given)
sound_planned m records facts viewed renewed wanted (asks.Resolve inst) o checked planned =
    sound_with m.known o (kinds.Resolve inst) (planned.over).goal planned.opens.kind (planned.over).is
    (renewed (kinds.Resolve inst) inst changes.Same (planned.over).goal refl (sym (wanted inst) ∙ planned.named)
    (planned.over).given)
sound_planned m records facts viewed renewed wanted (asks.DeleteDeployment dep) o checked planned =
    sound_with m.known o kinds.DeleteDeployment (nothing dep) planned.opens.kind (planned.opens.does).goal
    (sound_nothing m.known dep)
sound_planned m records facts viewed renewed wanted (asks.DeleteDisk disk) o checked planned =
    sound_without m.known o (λ i. (planned.opens.does i).goal)
sound_planned m records facts viewed renewed wanted asks.CleanUp o checked planned =
    sound_without m.known o (λ i. (planned.opens.does.1 i).goal)
