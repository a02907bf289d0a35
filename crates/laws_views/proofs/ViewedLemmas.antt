-- What is known can be viewed after each entry, and after what is planned.
use Rattle.std.proofs.Common.{◌≡◌, ◌≢◌, ◌∙◌, ℕ, ◌≤◌, Bool, true, false, List, [], Option, Some, None, Ok, Err}
use Rattle.std.proofs.Common.{ap, arith, filter, length, refl, subst, sym}
use Rattle.std.specs.Prelude.{is_some, if◌then◌else◌}
use Rattle.std.specs.Str.{bytes_eq}
use Rattle.std.proofs.lemmas.Bool.{false≢true}
use Rattle.bosh_asks.specs.Asked.{halting}
use Rattle.bosh_asks.specs.Goals.{nothing, recorded_config}
use Rattle.bosh_asks.specs.Known.{is_wanted}
use Rattle.bosh_asks.specs.Opened.{plan_of}
use Rattle.bosh_asks.specs.Over.{DeploysOver, GivesOver, RenewsOver}
use Rattle.bosh_asks.specs.declared.ask.Ask.{Ask}
use Rattle.bosh_asks.specs.declared.ask.Ask.TheVariants as asks
use Rattle.bosh_asks.specs.declared.ask.Deploy.{Deploy}
use Rattle.bosh_base.specs.declared.entry.Entry.{Entry}
use Rattle.bosh_base.specs.declared.entry.Entry.TheVariants as entries
use Rattle.bosh_base.specs.declared.entry.TaskOpen.{TaskOpen}
use Rattle.bosh_base.specs.declared.goal.Goal.{Goal}
use Rattle.bosh_base.specs.declared.inst.Inst.{Inst}
use Rattle.bosh_base.specs.declared.state.State.TheVariants.{Running}
use Rattle.bosh_base.specs.declared.task.TaskKind.{TaskKind}
use Rattle.bosh_base.specs.declared.task.TaskKind.TheVariants as kinds
use Rattle.bosh_cloudcfg.specs.declared.config.Config.{Config}
use Rattle.bosh_goal.specs.Anew.{is_left}
use Rattle.bosh_goal.specs.Goal.{IsGoal}
use Rattle.bosh_goal.specs.declared.change.Change.{Change}
use Rattle.bosh_goal.specs.declared.change.Change.TheVariants as changes
use Rattle.bosh_history.specs.Items.{slots_of}
use Rattle.bosh_history.specs.Known.{Known, dep_of_task, nothing_known}
use Rattle.bosh_history.specs.Learn.{learn}
use Rattle.bosh_history.specs.Moments.{Moment}
use Rattle.bosh_history.specs.Openings.{is_recorded}
use Rattle.bosh_history.specs.Snapshots.{known_by}
use Rattle.bosh_history.specs.Tasks.{goal_set, settles}
use Rattle.bosh_history.specs.Words.{at}
use Rattle.bosh_manifest_names.specs.declared.fault.GoalFault.TheVariants.{NoConfig}
use Rattle.bosh_records.specs.declared.records.Records.{Records}
use Rattle.bosh_rows.specs.Standing.{same_truth}
use Rattle.bosh_views.specs.View.{view_of}
use Rattle.laws_facts.proofs.FrameLemmas.{goals_begin, goals_end, goals_updated}
use Rattle.laws_facts.specs.KnownFacts.{KnownFacts}
use Rattle.laws_goals.proofs.AnewLemmas.{IsAnew, is-anew}
use Rattle.laws_goals.proofs.PartLemmas.{IsMade, is-made}
use Rattle.laws_stands.proofs.DeploymentLemmas.{bytes_is}
use Rattle.laws_views.proofs.FewLemmas.{slots_few, workers_few}
use Rattle.laws_views.proofs.OpenLemmas.{IsAnewOf, anew_known}
use Rattle.laws_views.specs.Planned.{IsChecked, IsPlanned}
use Rattle.laws_views.specs.Read.{AreReadAsKnown}
use Rattle.laws_views.specs.Viewed.{CanBeViewed}

-- an entry leaves it so: a task opens that is not of the empty name, with slots that have numbers; and what is told anew can
-- be viewed
abbrev pub KeepsViewed : Entry → Type 0
KeepsViewed (entries.TaskOpen o) = (o.dep ≢ Some []) × (length (slots_of o.goal) ≤ 4294967296)
KeepsViewed (entries.Snapshot s) = CanBeViewed (known_by s)
KeepsViewed entry = Unit {0}

-- ---- after an entry

pub nothing_viewed : CanBeViewed nothing_known
nothing_viewed = record { named = refl; numbered = λ dep. (let low : 0 ≤ 4294967296 = omega arith in low) }

same_viewed : (old new : Known) → new.goal ≡ old.goal → CanBeViewed old → CanBeViewed new
same_viewed old new same viewed = record {
  named = ap (λ (goal : List ℕ → Option Goal). goal []) same ∙ viewed.named;
  numbered = λ dep. subst (λ (goal : List ℕ → Option Goal). length (slots_of (goal dep)) ≤ 4294967296) (sym same)
      (viewed.numbered dep);
}

-- the goal of another deployment than that of the empty name becomes another one, or none
set_viewed : (old new : Known) (dep : List ℕ) (goal : Option Goal) → new.goal ≡ at bytes_eq dep goal old.goal
    → (dep ≡ [] → goal ≡ None) → length (slots_of goal) ≤ 4294967296 → CanBeViewed old → CanBeViewed new
set_viewed old new dep goal is apart few viewed = record {
  named = ap (λ (goal : List ℕ → Option Goal). goal []) is ∙ empty (bytes_eq dep []) refl;
  numbered = λ other. subst (λ (goals : List ℕ → Option Goal). length (slots_of (goals other)) ≤ 4294967296) (sym is)
      (by other (bytes_eq dep other));
}
  where
    empty : (b : Bool) → bytes_eq dep [] ≡ b → (if b then goal else old.goal []) ≡ None
    empty true same = apart (bytes_is dep [] same)
    empty false other = viewed.named

    by : (other : List ℕ) (b : Bool) → length (slots_of (if b then goal else old.goal other)) ≤ 4294967296
    by other true = few
    by other false = viewed.numbered other

opened_viewed : (m : Moment) (o : TaskOpen) (dep : Option (List ℕ)) → o.dep ≡ dep → KeepsViewed (entries.TaskOpen o)
    → CanBeViewed m.known → CanBeViewed (learn m.known (entries.TaskOpen o))
opened_viewed m o (Some dep) is (named, few) viewed =
    set_viewed m.known (learn m.known (entries.TaskOpen o)) dep o.goal (ap (λ dep. goal_set dep o.goal m.known.goal) is)
    (λ empty. absurd (named (is ∙ ap Some empty))) few viewed
opened_viewed m o None is keeps viewed =
    same_viewed m.known (learn m.known (entries.TaskOpen o)) (ap (λ dep. goal_set dep o.goal m.known.goal) is) viewed

done_viewed : (m : Moment) (t : ℕ) (kind : TaskKind) → (m.known.task t).kind ≡ kind → CanBeViewed m.known
    → CanBeViewed (learn m.known (entries.TaskDone t))
done_viewed m t kind is viewed =
    by kind (ap (λ kind. (settles kind (m.known.task t).goal (dep_of_task m.known t) m.known).goal) is)
  where
    new : Known
    new = learn m.known (entries.TaskDone t)

    by : (kind : TaskKind)
        → new.goal ≡ (settles kind (m.known.task t).goal (dep_of_task m.known t) m.known).goal → CanBeViewed new
    by kinds.DeleteDeployment same =
        set_viewed m.known new (dep_of_task m.known t) None same (λ empty. refl) (omega arith) viewed
    by kinds.Deploy same = same_viewed m.known new same viewed
    by kinds.Fix same = same_viewed m.known new same viewed
    by kind same = same_viewed m.known new same viewed

pub viewed_on : (m : Moment) (e : Entry) → KeepsViewed e → CanBeViewed m.known → CanBeViewed (learn m.known e)
viewed_on m (entries.TaskOpen o) keeps viewed = opened_viewed m o o.dep refl keeps viewed
viewed_on m (entries.Snapshot s) keeps viewed = keeps
viewed_on m (entries.Begin b) keeps viewed = same_viewed m.known (learn m.known (entries.Begin b)) (goals_begin m b).goal viewed
viewed_on m (entries.End e) keeps viewed =
    same_viewed m.known (learn m.known (entries.End e)) (goals_end m e.n e.answer).goal viewed
viewed_on m (entries.UpdDone u) keeps viewed =
    same_viewed m.known (learn m.known (entries.UpdDone u)) (goals_updated m u.task u.inst).goal viewed
viewed_on m (entries.TaskDone t) keeps viewed = done_viewed m t (m.known.task t).kind refl viewed
viewed_on m (entries.Gone u) keeps viewed = same_viewed m.known (learn m.known (entries.Gone u)) refl viewed
viewed_on m entry keeps viewed = same_viewed m.known (learn m.known entry) refl viewed

-- ---- what is planned

made_few : (records : Records) (it : Deploy) (goal : Goal) → GivesOver records it (Ok goal) → length goal.slots ≤ 64
made_few records it goal given = by (recorded_config records.config) refl given.goal
  where
    by : (config : Option Config) → recorded_config records.config ≡ config
        → IsGoal it.manifest config records.releases.items records.stemcells.items (view_of records it.manifest.name) it.recreate
        (Ok goal)
        → length goal.slots ≤ 64
    by (Some config) is told =
        let made : IsMade it.manifest config records.releases.items records.stemcells.items (view_of records it.manifest.name)
        it.recreate goal =
        is-made it.manifest config records.releases.items records.stemcells.items (view_of records it.manifest.name) it.recreate
        goal told in
        let few : length goal.slots ≤ config.compilation.workers =
        slots_few config (length goal.keys) made.addrs (view_of records it.manifest.name) goal.slots made.slots_are in
        let workers : config.compilation.workers ≤ 64 = workers_few records.config config is in
        omega arith
    by None is (works, needed, answer) = absurd (let refused : Err NoConfig ≡ Ok goal = answer in cc)

anew_few : (k : Known) (records : Records) (inst : Inst) (change : Change) (goal : Goal) → IsAnewOf k records inst change goal
    → length goal.slots ≤ 64
anew_few k records inst change goal made =
    let anew_so : IsAnew inst change made.config (view_of records inst.dep) made.current goal =
    is-anew inst change made.config (view_of records inst.dep) made.current goal made.is in
    let few : length anew_so.makes ≤ made.config.compilation.workers =
    slots_few made.config (length (filter (is_left (view_of records inst.dep).compiled) made.current.keys)) []
    (view_of records inst.dep) anew_so.makes anew_so.slots_are in
    let workers : made.config.compilation.workers ≤ 64 = workers_few records.config made.config made.config_is in
    subst (λ (goal : Goal). length goal.slots ≤ 64) (sym anew_so.is)
    (let fewer : length anew_so.makes ≤ 64 = omega arith in fewer)

few_of : (o : TaskOpen) (goal : Goal) → o.goal ≡ Some goal → length goal.slots ≤ 64 → length (slots_of o.goal) ≤ 4294967296
few_of o goal is few =
    subst (λ goal. length (slots_of goal) ≤ 4294967296) (sym is) (let low : length goal.slots ≤ 64 = few in omega arith)

-- a deployment that has a goal has a name
has_name : (k : Known) (dep : List ℕ) (o : TaskOpen) → CanBeViewed k → o.dep ≡ Some dep → is_some (k.goal dep) ≡ true
    → o.dep ≢ Some []
has_name k dep o viewed is there empty =
    let same : dep ≡ [] = (let both : Some dep ≡ Some [] = sym is ∙ empty in cc) in
    absurd (false≢true (sym (ap is_some (ap k.goal same ∙ viewed.named)) ∙ there))

module _ (m : Moment) (records : Records) (facts : KnownFacts m) (read : AreReadAsKnown m.known records)
    (viewed : CanBeViewed m.known) where
  -- a task of one instance
  one_viewed : (inst : Inst) (change : Change) (o : TaskOpen) (goal : Goal) → o.dep ≡ Some inst.dep → o.goal ≡ Some goal
      → is_wanted records inst ≡ true → RenewsOver records inst change (Ok goal) → KeepsViewed (entries.TaskOpen o)
  one_viewed inst change o goal dep is wanted given =
      let made : IsAnewOf m.known records inst change goal = anew_known m.known records inst change goal read given in (
        has_name m.known inst.dep o viewed dep (ap is_some made.was),
        few_of o goal is (anew_few m.known records inst change goal made),
      )

  pub planned_viewed : (ask : Ask) (o : TaskOpen) → IsChecked ask → IsPlanned records ask o → KeepsViewed (entries.TaskOpen o)
  planned_viewed (asks.Deploy it) o checked planned = (
    λ empty. checked.named (let both : Some it.manifest.name ≡ Some [] = sym planned.opens.dep ∙ empty in cc),
    few_of o over.goal over.is (made_few records it over.goal over.given),
  )
    where
      over : DeploysOver records it (plan_of o)
      over = planned.over
  planned_viewed (asks.Recreate inst) o checked planned =
      one_viewed inst changes.Fresh o (planned.over).goal planned.opens.dep (planned.over).is planned.named (planned.over).given
  planned_viewed (asks.Start inst) o checked planned =
      one_viewed inst (changes.To Running) o (planned.over).goal planned.opens.dep (planned.over).is planned.named
      (planned.over).given
  planned_viewed (asks.Halt inst hard) o checked planned =
      one_viewed inst (halting hard) o (planned.over).goal planned.opens.dep (planned.over).is planned.named (planned.over).given
  planned_viewed (asks.Resolve inst) o checked planned =
      one_viewed inst changes.Same o (planned.over).goal planned.opens.dep (planned.over).is planned.named (planned.over).given
  planned_viewed (asks.DeleteDeployment dep) o checked planned = (
    has_name m.known dep o viewed planned.opens.dep
        (same (is_recorded m.known dep) (sym (read.recorded dep) ∙ planned.named) (facts.lists.deployment_listed dep)),
    few_of o (nothing dep) (planned.opens.does).goal (let low : 0 ≤ 64 = omega arith in low),
  )
    where
      same : (b : Bool) → b ≡ true → same_truth b (is_some (m.known.goal dep)) ≡ true → is_some (m.known.goal dep) ≡ true
      same true is listed = listed
      same false is listed = absurd (false≢true is)
  planned_viewed (asks.DeleteDisk disk) o checked planned = (
    λ empty. absurd (let both : None ≡ Some [] = sym planned.opens.dep ∙ empty in cc),
    subst (λ goal. length (slots_of goal) ≤ 4294967296) (sym (λ i. (planned.opens.does i).goal)) (omega arith),
  )
  planned_viewed asks.CleanUp o checked planned = (
    λ empty. absurd (let both : None ≡ Some [] = sym planned.opens.dep ∙ empty in cc),
    subst (λ goal. length (slots_of goal) ≤ 4294967296) (sym (λ i. (planned.opens.does.1 i).goal)) (omega arith),
  )
