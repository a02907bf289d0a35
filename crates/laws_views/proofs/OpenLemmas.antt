-- A task that is planned over records that stand may open.
use Rattle.std.proofs.Common.{◌≡◌, ◌∙◌, ℕ, ◌+◌, Bool, true, false, ◌&&◌, ◌||◌, not, List, [], ◌∷◌, Option, Some, None}
use Rattle.std.proofs.Common.{Ok, ap, filter, map, refl, subst, sym}
use Rattle.std.specs.Prelude.{eqb, is_none, is_some, if◌then◌else◌}
use Rattle.std.specs.List.{list_all}
use Rattle.std.specs.Option.{option_eq}
use Rattle.std.specs.Str.{bytes_eq}
use Rattle.std.proofs.lemmas.Bool.{and_from, and_parts, false≢true, true≢false}
use Rattle.std.proofs.lemmas.Slice.Eq.{bytes_eq-Decides}
use Rattle.bosh_asks.specs.Asked.{dep_of, halting}
use Rattle.bosh_asks.specs.Goals.{nothing, recorded_config}
use Rattle.bosh_asks.specs.Known as asked
use Rattle.bosh_asks.specs.Known.{lock_holder, next_task}
use Rattle.bosh_asks.specs.Opened.{Alters, CleansUp, Deletes, Deploys, disks_alone, plan_of}
use Rattle.bosh_asks.specs.Over.{AltersOver, DeletesOver, DeploysOver, RenewsOver}
use Rattle.bosh_asks.specs.Recorded.{loose}
use Rattle.bosh_asks.specs.declared.ask.Ask.{Ask}
use Rattle.bosh_asks.specs.declared.ask.Ask.TheVariants as asks
use Rattle.bosh_asks.specs.declared.ask.Deploy.{Deploy}
use Rattle.bosh_base.specs.Cloud.{numbers_to}
use Rattle.bosh_base.specs.declared.entry.Entry.TheVariants as entries
use Rattle.bosh_base.specs.declared.entry.TaskOpen.{TaskOpen}
use Rattle.bosh_base.specs.declared.goal.Goal.{Goal}
use Rattle.bosh_base.specs.declared.goal.GoalRow.{GoalRow}
use Rattle.bosh_base.specs.declared.inst.Inst.{Inst}
use Rattle.bosh_base.specs.declared.link.Tie.{Tie}
use Rattle.bosh_base.specs.declared.state.State.TheVariants.{Running}
use Rattle.bosh_base.specs.declared.task.TaskKind.{TaskKind}
use Rattle.bosh_base.specs.declared.task.TaskKind.TheVariants as kinds
use Rattle.bosh_cloudcfg.specs.declared.config.Config.{Config}
use Rattle.bosh_goal.specs.Anew.{anew}
use Rattle.bosh_goal.specs.declared.change.Change.{Change}
use Rattle.bosh_goal.specs.declared.change.Change.TheVariants as changes
use Rattle.bosh_history.specs.Goals.{does_not_stand, inst_of, is_in, out_of_goal, to_change, to_delete}
use Rattle.bosh_history.specs.Held.{is_offered}
use Rattle.bosh_history.specs.Known.{Known, offers_in}
use Rattle.bosh_history.specs.Moments.{Moment}
use Rattle.bosh_history.specs.Openings.{HasSource, MayOpen, OpensBy, OpensDisks, OpensFor, OpensOn, deploys, is_free}
use Rattle.bosh_history.specs.Openings.{is_offered_still, is_recorded, keeps_ties, names_what_is_there, ties_of, withdraws_nothing}
use Rattle.bosh_history.specs.Words.{is_among}
use Rattle.bosh_records.specs.declared.records.Records.{Records}
use Rattle.bosh_rows.specs.Standing.{same_truth}
use Rattle.bosh_views.specs.View.{view_of}
use Rattle.laws_choices.proofs.SameCallLemmas.{none_found}
use Rattle.laws_facts.specs.Goals.{GoalFacts, is_offered_now}
use Rattle.laws_facts.specs.KnownFacts.{KnownFacts}
use Rattle.laws_goals.proofs.AnewLemmas.{is-renewed}
use Rattle.laws_goals.specs.Renewed.{IsRenewed}
use Rattle.laws_stands.proofs.DeploymentLemmas.{bytes_is}
use Rattle.laws_stands_works.proofs.KeptLemmas.{all_true}
use Rattle.laws_views.specs.Planned.{IsPlanned}
use Rattle.laws_views.specs.Read.{AreReadAsKnown, has_lock}

bytes_own : (a : List ℕ) → bytes_eq a a ≡ true
bytes_own a = (bytes_eq-Decides a a).1 refl

all_weaker : {A : Type 0} (p q : A → Bool) → ((x : A) → p x ≡ true → q x ≡ true) → (xs : List A)
    → list_all p xs ≡ true → list_all q xs ≡ true
all_weaker p q each [] all = refl
all_weaker p q each (x ∷ xs) all =
    let (first, rest) = and_parts (p x) (list_all p xs) all in
    and_from (q x) (list_all q xs) (each x first) (all_weaker p q each xs rest)

filter_all : {A : Type 0} (xs : List A) → filter (λ x. true) xs ≡ xs
filter_all [] = refl
filter_all (x ∷ xs) = ap (λ ys. x ∷ ys) (filter_all xs)

same_some : {A : Type 0} (a b : A) → Some a ≡ Some b → a ≡ b
same_some a b same = cc

-- ---- the goal of a task of one instance

-- the current goal of the deployment that it is made anew of
pub record IsAnewOf (k : Known) (records : Records) (inst : Inst) (change : Change) (it : Goal) : Type 0 where
  pub config : Config
  pub config_is : recorded_config records.config ≡ Some config
  pub current : Goal
  pub was : k.goal inst.dep ≡ Some current
  pub is : anew inst change (Some config) (view_of records inst.dep) current ≡ Ok it

pub anew_known : (k : Known) (records : Records) (inst : Inst) (change : Change) (it : Goal) → AreReadAsKnown k records
    → RenewsOver records inst change (Ok it) → IsAnewOf k records inst change it
anew_known k records inst change it read given = by (recorded_config records.config) refl given.goal
  where
    by : (config : Option Config) → recorded_config records.config ≡ config
        → anew inst change config (view_of records inst.dep) given.current ≡ Ok it → IsAnewOf k records inst change it
    by (Some config) config_is is = record {
      config = config;
      config_is = config_is;
      current = given.current;
      was = sym (read.goals inst.dep) ∙ given.recorded;
      is = is;
    }
    by None config_is is = absurd cc

-- ---- what opens

module _ (m : Moment) (records : Records) (facts : KnownFacts m) (read : AreReadAsKnown m.known records)
    (next : next_task records ≡ m.known.tasks + 1) (ask : Ask) (o : TaskOpen) (planned : IsPlanned records ask o) where
  abbrev k : Known
  k = m.known

  number : o.task ≡ k.tasks + 1
  number = planned.number ∙ next

  free : is_free k (dep_of ask) ≡ true
  free = sym (none_found (has_lock k (dep_of ask)) (numbers_to k.tasks))
      ∙ ap is_none (sym (read.locks (dep_of ask)) ∙ planned.free)

  -- a task of a deployment
  with_goal : (kind : TaskKind) (goal : Goal) → o.kind ≡ kind → o.goal ≡ Some goal → dep_of ask ≡ Some goal.dep
      → names_what_is_there k kind goal ≡ true
      → o.changed ≡ to_change k kind (Some goal) → o.obsolete ≡ to_delete k kind goal.dep (Some goal) → o.disks ≡ []
      → withdraws_nothing k goal ≡ true → OpensFor k o o.goal
  with_goal kind goal kind_is goal_is dep there changed obsolete disks keeps =
      subst (OpensFor k o) (sym goal_is) (record {
        number = number;
        of_the_deployment = ap (λ d. option_eq bytes_eq d (Some goal.dep)) (planned.opens.dep ∙ dep) ∙ bytes_own goal.dep;
        is_free = ap (is_free k) planned.opens.dep ∙ free;
        is_there = ap (λ kind. names_what_is_there k kind goal) kind_is ∙ there;
        changes = changed ∙ (λ i. to_change k (sym kind_is i) (sym goal_is i));
        deletes = obsolete ∙ (λ i. to_delete k (sym kind_is i) goal.dep (sym goal_is i));
        no_disks = disks;
        keeps_links = keeps;
      })

  -- a task that deletes disks
  on_disks : (disks : List ℕ) → dep_of ask ≡ None → plan_of o ≡ disks_alone disks → OpensOn k o
  on_disks disks dep plan = record {
    number = number;
    of_none = planned.opens.dep ∙ dep;
    is_free = ap (is_free k) planned.opens.dep ∙ free;
    changes_none = (λ i. (plan i).changed);
    deletes_none = (λ i. (plan i).obsolete);
  }

  -- ---- a task of one instance

  module _ (inst : Inst) (change : Change) (it : Goal) (anew_of : IsAnewOf m.known records inst change it) where
    renewed : IsRenewed inst (view_of records inst.dep) anew_of.current it
    renewed = is-renewed inst change anew_of.config (view_of records inst.dep) anew_of.current it anew_of.is

    current_facts : GoalFacts k inst.dep anew_of.current
    current_facts = facts.goals inst.dep anew_of.current anew_of.was

    pub dep_anew : it.dep ≡ inst.dep
    dep_anew = renewed.dep ∙ current_facts.of_dep

    recorded_anew : is_recorded k it.dep ≡ true
    recorded_anew = ap (is_recorded k) dep_anew
        ∙ same (is_among bytes_eq inst.dep k.deployments) (sym (ap is_some anew_of.was)) (facts.lists.deployment_listed inst.dep)
      where
        same : (a : Bool) → true ≡ is_some (k.goal inst.dep) → same_truth a (is_some (k.goal inst.dep)) ≡ true → a ≡ true
        same true there is = refl
        same false there is = absurd (false≢true (ap not there ∙ is))

    -- no link is withdrawn, since the current goal offers the same
    keeps_anew : withdraws_nothing k it ≡ true
    keeps_anew = all_true (keeps_ties k it) keeps k.deployments
      where
        keeps : (d : List ℕ) → keeps_ties k it d ≡ true
        keeps d = by (bytes_eq d it.dep) refl (k.goal d) refl
          where
            still : (other : Goal) → bytes_eq d it.dep ≡ false → (tie : Tie) → is_offered_now k d tie ≡ true
                → is_offered_still it tie ≡ true
            still other apart tie now = of (bytes_eq tie.provider.dep it.dep) refl (bytes_eq tie.provider.dep d) refl now
              where
                of : (b : Bool) → bytes_eq tie.provider.dep it.dep ≡ b → (c : Bool) → bytes_eq tie.provider.dep d ≡ c
                    → (c || is_offered tie.provider tie.kind (offers_in (k.goal tie.provider.dep))) ≡ true
                    → (not b || is_offered tie.provider tie.kind it.offers) ≡ true
                of false elsewhere c is now = refl
                of true here true is now =
                    absurd (true≢false (sym here ∙ ap (λ dep. bytes_eq dep it.dep) (bytes_is tie.provider.dep d is) ∙ apart))
                of true here false is now =
                    ap (is_offered tie.provider tie.kind)
                    (renewed.offers
                    ∙ sym (ap (λ dep. offers_in (k.goal dep)) (bytes_is tie.provider.dep it.dep here ∙ dep_anew)
                    ∙ ap offers_in anew_of.was))
                    ∙ now

            by : (b : Bool) → bytes_eq d it.dep ≡ b → (goal : Option Goal) → k.goal d ≡ goal
                → (b || list_all (is_offered_still it) (ties_of (k.goal d))) ≡ true
            by true is goal goal_is = refl
            by false apart (Some other) goal_is =
                ap (λ goal. list_all (is_offered_still it) (ties_of goal)) goal_is
                ∙ all_weaker (is_offered_now k d) (is_offered_still it) (still other apart) other.ties
                (facts.goals d other goal_is).offered_now
            by false apart None goal_is = ap (λ goal. list_all (is_offered_still it) (ties_of goal)) goal_is

  -- what is asked of one instance
  of_one : (inst : Inst) (change : Change) (kind : TaskKind) → o.kind ≡ kind → dep_of ask ≡ Some inst.dep → asked.is_wanted records inst ≡ true → Alters inst change (plan_of o)
      → AltersOver records inst change (plan_of o)
      → ((goal : Goal) → (is_recorded k goal.dep && is_in (k.goal goal.dep) inst) ≡ true → names_what_is_there k kind goal ≡ true)
      → ((goal : Goal) → to_change k kind (Some goal) ≡ inst ∷ []) → ((goal : Goal) → to_delete k kind goal.dep (Some goal) ≡ [])
      → OpensFor k o o.goal
  of_one inst change kind kind_is dep wanted alters over there changes deletes =
      let it : Goal = over.goal in
      let made : IsAnewOf k records inst change it = anew_known k records inst change it read over.given in
      let dep_is : it.dep ≡ inst.dep = dep_anew inst change it made in
      with_goal kind it kind_is over.is (dep ∙ ap Some (sym dep_is))
      (there it (and_from (is_recorded k it.dep) (is_in (k.goal it.dep) inst) (recorded_anew inst change it made)
      (ap (λ d. is_in (k.goal d) inst) dep_is ∙ sym (read.wanted inst) ∙ wanted)))
      (alters.changed ∙ sym (changes it)) (alters.none_obsolete ∙ sym (deletes it)) alters.no_disks
      (keeps_anew inst change it made)

  -- ---- a deploy

  of_deploy : (it : Deploy) → ask ≡ asks.Deploy it → Deploys it (plan_of o) → DeploysOver records it (plan_of o)
      → (fix : Bool) → it.fix ≡ fix → o.kind ≡ (if fix then kinds.Fix else kinds.Deploy)
      → OpensFor k o o.goal
  of_deploy it ask_is deploys_so over fix fix_is kind_is =
      with_goal (kind fix) goal kind_is over.is (ap dep_of ask_is ∙ ap Some (sym dep_is))
      (there fix) (over.changed ∙ read.changed it.fix goal.rows ∙ changes fix fix_is)
      (over.obsolete ∙ read.obsolete goal ∙ deletes fix) deploys_so.no_disks
      (sym (read.consumers goal) ∙ ap is_none over.kept)
    where
      goal : Goal
      goal = over.goal

      kind : Bool → TaskKind
      kind b = if b then kinds.Fix else kinds.Deploy

      there : (b : Bool) → names_what_is_there k (kind b) goal ≡ true
      there true = refl
      there false = refl

      dep_is : goal.dep ≡ it.manifest.name
      dep_is = ap (λ (goal : Goal). goal.dep) (same_some goal deploys_so.goal (sym over.is ∙ deploys_so.is)) ∙ deploys_so.of_dep

      changes : (b : Bool) → it.fix ≡ b
          → map inst_of (filter (λ (want : GoalRow). it.fix || does_not_stand k want) goal.rows) ≡ to_change k (kind b) (Some goal)
      changes true is = (λ i. map inst_of (filter (λ (want : GoalRow). is i || does_not_stand k want) goal.rows))
          ∙ ap (map inst_of) (filter_all goal.rows)
      changes false is = λ i. map inst_of (filter (λ (want : GoalRow). is i || does_not_stand k want) goal.rows)

      deletes : (b : Bool) → out_of_goal k goal.dep (Some goal) ≡ to_delete k (kind b) goal.dep (Some goal)
      deletes true = refl
      deletes false = refl

pub may_open : (m : Moment) (records : Records) → KnownFacts m → AreReadAsKnown m.known records
    → next_task records ≡ m.known.tasks + 1 → (ask : Ask) (o : TaskOpen) → IsPlanned records ask o → MayOpen m.known o
may_open m records facts read next (asks.Deploy it) o planned =
    subst (OpensBy m.known o) (sym planned.opens.kind) (by it.fix refl planned.opens.kind)
  where
    by : (fix : Bool) → it.fix ≡ fix → o.kind ≡ (if fix then kinds.Fix else kinds.Deploy)
        → OpensBy m.known o (if fix then kinds.Fix else kinds.Deploy)
    by true is kind = of_deploy m records facts read next (asks.Deploy it) o planned it refl planned.opens.does planned.over true
        is kind
    by false is kind = of_deploy m records facts read next (asks.Deploy it) o planned it refl planned.opens.does planned.over false
        is kind
may_open m records facts read next (asks.Recreate inst) o planned =
    subst (OpensBy m.known o) (sym planned.opens.kind)
    (of_one m records facts read next (asks.Recreate inst) o planned inst changes.Fresh (kinds.Recreate inst) planned.opens.kind
    refl planned.named planned.opens.does planned.over (λ goal is. is) (λ goal. refl) (λ goal. refl))
may_open m records facts read next (asks.Start inst) o planned =
    subst (OpensBy m.known o) (sym planned.opens.kind)
    (of_one m records facts read next (asks.Start inst) o planned inst (changes.To Running) (kinds.Start inst) planned.opens.kind
    refl planned.named planned.opens.does planned.over (λ goal is. is) (λ goal. refl) (λ goal. refl))
may_open m records facts read next (asks.Halt inst hard) o planned =
    subst (OpensBy m.known o) (sym planned.opens.kind)
    (of_one m records facts read next (asks.Halt inst hard) o planned inst (halting hard) (kinds.Stop inst) planned.opens.kind
    refl planned.named planned.opens.does planned.over (λ goal is. is) (λ goal. refl) (λ goal. refl))
may_open m records facts read next (asks.Resolve inst) o planned =
    subst (OpensBy m.known o) (sym planned.opens.kind)
    (of_one m records facts read next (asks.Resolve inst) o planned inst changes.Same (kinds.Resolve inst) planned.opens.kind
    refl planned.named planned.opens.does planned.over (λ goal is. is) (λ goal. refl) (λ goal. refl))
may_open m records facts read next (asks.DeleteDeployment dep) o planned =
    subst (OpensBy m.known o) (sym planned.opens.kind)
    (with_goal m records facts read next (asks.DeleteDeployment dep) o planned kinds.DeleteDeployment (nothing dep)
    planned.opens.kind does.goal refl
    (and_from (is_recorded m.known dep) true (sym (read.recorded dep) ∙ planned.named) refl) does.none_changed
    (over.obsolete ∙ read.obsolete (nothing dep)) does.no_disks (sym (read.consumers (nothing dep)) ∙ ap is_none over.kept))
  where
    does : Deletes dep (plan_of o)
    does = planned.opens.does

    over : DeletesOver records dep (plan_of o)
    over = planned.over
may_open m records facts read next (asks.DeleteDisk disk) o planned =
    subst (OpensBy m.known o) (sym planned.opens.kind)
    (subst (λ goal. OpensDisks m.known o goal × (o.disks ≡ disk ∷ []) × (is_among eqb disk m.known.orphans ≡ true))
    (sym (λ i. (does i).goal)) (
      on_disks m records facts read next (asks.DeleteDisk disk) o planned (disk ∷ []) refl does,
      (λ i. (does i).disks),
      sym (read.orphaned disk) ∙ planned.named,
    ))
  where
    does : plan_of o ≡ disks_alone (disk ∷ [])
    does = planned.opens.does
may_open m records facts read next asks.CleanUp o planned =
    subst (OpensBy m.known o) (sym planned.opens.kind)
    (subst (λ goal. OpensDisks m.known o goal × (o.disks ≡ m.known.orphans)) (sym (λ i. (does.1 i).goal)) (
      on_disks m records facts read next asks.CleanUp o planned (loose does.0) refl does.1,
      planned.over ∙ read.loose,
    ))
  where
    does : CleansUp (plan_of o)
    does = planned.opens.does

-- a deploy tells its source, and no other task does
pub has_source : (records : Records) (ask : Ask) (o : TaskOpen) → IsPlanned records ask o
    → HasSource (entries.TaskOpen o)
has_source records (asks.Deploy it) o planned =
    ap is_some planned.opens.source ∙ sym (ap deploys planned.opens.kind ∙ deploying it.fix)
  where
    deploying : (fix : Bool) → deploys (if fix then kinds.Fix else kinds.Deploy) ≡ true
    deploying true = refl
    deploying false = refl
has_source records (asks.Recreate inst) o planned = ap is_some planned.opens.source ∙ sym (ap deploys planned.opens.kind)
has_source records (asks.Start inst) o planned = ap is_some planned.opens.source ∙ sym (ap deploys planned.opens.kind)
has_source records (asks.Halt inst hard) o planned = ap is_some planned.opens.source ∙ sym (ap deploys planned.opens.kind)
has_source records (asks.Resolve inst) o planned = ap is_some planned.opens.source ∙ sym (ap deploys planned.opens.kind)
has_source records (asks.DeleteDeployment dep) o planned =
    ap is_some planned.opens.source ∙ sym (ap deploys planned.opens.kind)
has_source records (asks.DeleteDisk disk) o planned = ap is_some planned.opens.source ∙ sym (ap deploys planned.opens.kind)
has_source records asks.CleanUp o planned = ap is_some planned.opens.source ∙ sym (ap deploys planned.opens.kind)
