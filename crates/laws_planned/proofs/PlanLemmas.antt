-- What is planned over records, or refused, is so over what is known.
use Rattle.std.proofs.Common.{◌≡◌, ◌∙◌, ◌⊎◌, ℕ, Bool, true, false, List, Option, Some, None, Result, Ok, Err}
use Rattle.std.proofs.Common.{ap, inl, inr, refl, sym, subst}
use Rattle.std.specs.Prelude.{is_some, if◌then◌else◌}
use Rattle.std.specs.Option.{option_map, option_map_or}
use Rattle.std.proofs.lemmas.Bool.{false≢true, true≢false}
use Rattle.bosh_answers.specs.Step.{◌>>=◌}
use Rattle.bosh_asks.specs.Asked.{dep_of, halting}
use Rattle.bosh_asks.specs.Cause.{ExceedsLimit, IsCause, IsConsumer}
use Rattle.bosh_asks.specs.Changed.{is_in}
use Rattle.bosh_asks.specs.Faults.{answered, of_goal, unsound}
use Rattle.bosh_asks.specs.Goals.{AreSound, nothing, recorded_config}
use Rattle.bosh_asks.specs.Known as asked
use Rattle.bosh_asks.specs.Over.{GivesOver, GoalOver, HasNone, Is, IsNamed, RenewsOver}
use Rattle.bosh_asks.specs.Recorded.{first_consumer}
use Rattle.bosh_asks.specs.Refused.{MayRefuse, RefusesChange, RefusesCleanUp, RefusesDeletion, RefusesDeploy, RefusesDisk}
use Rattle.bosh_asks.specs.declared.ask.Ask.{Ask}
use Rattle.bosh_asks.specs.declared.ask.Ask.TheVariants as asks
use Rattle.bosh_asks.specs.declared.ask.Deploy.{Deploy}
use Rattle.bosh_asks.specs.declared.fault.BookFault.{BookFault}
use Rattle.bosh_asks.specs.declared.fault.BookFault.TheVariants as book
use Rattle.bosh_base.specs.declared.goal.Goal.{Goal}
use Rattle.bosh_base.specs.declared.inst.Inst.{Inst}
use Rattle.bosh_base.specs.declared.link.Joint.{Joint}
use Rattle.bosh_base.specs.declared.release.Release.{Release}
use Rattle.bosh_base.specs.declared.snapshot.DepRow.{DepRow}
use Rattle.bosh_base.specs.declared.state.State.TheVariants.{Running}
use Rattle.bosh_base.specs.declared.stemcell.Stemcell.{Stemcell}
use Rattle.bosh_base.specs.declared.view.View.{View}
use Rattle.bosh_due.specs.Plans.{AnswersGoal, Plan, PlansDeploy, alteration_plan, clean_up_plan, current, deletion_plan}
use Rattle.bosh_due.specs.Plans.{disk_deletion_plan, having_instance, lock_holder}
use Rattle.bosh_due.specs.Plans.{unconsumed, unlocked}
use Rattle.bosh_due.specs.Plans.PlansDeploy.{consumed, differs, locked, no_goal, planned, too_many}
use Rattle.bosh_goal.specs.Anew.{anew}
use Rattle.bosh_goal.specs.Goal.{IsGoal}
use Rattle.bosh_goal.specs.declared.change.Change.{Change}
use Rattle.bosh_goal.specs.declared.change.Change.TheVariants as changes
use Rattle.bosh_history.specs.Held.{view}
use Rattle.bosh_history.specs.Known.{Known}
use Rattle.bosh_manifest_names.specs.Answer.{IsAnswer}
use Rattle.bosh_manifest_names.specs.declared.fault.GoalFault.{GoalFault}
use Rattle.bosh_records.specs.Readers.{deployment_of, goal_of}
use Rattle.bosh_records.specs.declared.records.Records.{Records}
use Rattle.bosh_views.specs.View.{view_of}
use Rattle.laws_planned.specs.Planned.{PlansAsk}
use Rattle.laws_planned.specs.Read.{ArePlannedOver}

-- ---- what is named

no_goal_there : (o : Option DepRow) → is_some o ≡ false → option_map (λ (row : DepRow). row.goal) o ≡ None
no_goal_there (Some row) out = absurd (true≢false out)
no_goal_there None out = refl

goal_there : (o : Option DepRow) → is_some o ≡ true
    → (goal : Goal) × (option_map (λ (row : DepRow). row.goal) o ≡ Some goal)
goal_there (Some row) there = (row.goal, refl)
goal_there None there = absurd (false≢true there)

wanted_there : (inst : Inst) (o : Option Goal) → option_map_or (λ goal. is_in goal inst) o false ≡ true
    → (goal : Goal) × (o ≡ Some goal) × (is_in goal inst ≡ true)
wanted_there inst (Some goal) there = (goal, refl, there)
wanted_there inst None there = absurd (false≢true there)

-- ---- goals

-- a fault of a goal that is told is no want of memory
answered_fault : (fault : GoalFault) (answer : Result Goal GoalFault) → of_goal fault ≡ book.Goal fault
    → IsAnswer (Err fault) answer → answer ≡ Err fault
answered_fault fault answer told (inl memory) =
    let same : book.Memory ≡ book.Goal fault = sym (ap of_goal memory) ∙ told in absurd cc
answered_fault fault answer told (inr is) = is

module _ (k : Known) (records : Records) (over : ArePlannedOver k records) where
  goals_are : (dep : List ℕ) → goal_of records dep ≡ k.goal dep
  goals_are = over.read.goals

  locks_are : (dep : Option (List ℕ)) (holder : Option ℕ) → asked.lock_holder records dep ≡ holder
      → lock_holder k dep ≡ holder
  locks_are dep holder is = sym (over.read.locks dep) ∙ is

  no_deployment : (dep : List ℕ) → asked.is_recorded records dep ≡ false → k.goal dep ≡ None
  no_deployment dep out = sym (goals_are dep) ∙ no_goal_there (deployment_of records dep) out

  a_deployment : (dep : List ℕ) → asked.is_recorded records dep ≡ true → (goal : Goal) × (k.goal dep ≡ Some goal)
  a_deployment dep there = let it : (goal : Goal) × (goal_of records dep ≡ Some goal) =
      goal_there (deployment_of records dep) there in (it.0, sym (goals_are dep) ∙ it.1)

  -- ---- tasks of one instance

  module _ (inst : Inst) (change : Change) where
    -- the goal anew, over what is known
    abbrev made : Goal → Result Goal BookFault
    made goal = answered (anew inst change (recorded_config k.config) (view k inst.dep) goal)

    abbrev after_free : Result Bool BookFault → Result Goal BookFault → Plan
    after_free unheld made = do
      it ← unheld
      goal ← made
      Ok (Some goal)

    abbrev after_instance : Option ℕ → Result Goal BookFault → Plan
    after_instance holder having = do
      goal ← having
      unheld ← unlocked holder
      it ← made goal
      Ok (Some it)

    abbrev after_goal : Option ℕ → Result Goal BookFault → Plan
    after_goal holder whole = do
      it ← whole
      goal ← having_instance inst it
      unheld ← unlocked holder
      new ← made goal
      Ok (Some new)

    abbrev holder : Option ℕ
    holder = lock_holder k (Some inst.dep)

    -- where the instance is wanted by the current goal
    wanted_plan : (goal : Goal) → k.goal inst.dep ≡ Some goal → is_in goal inst ≡ true
        → alteration_plan k inst change ≡ after_free (unlocked holder) (made goal)
    wanted_plan goal there inside =
        ap (λ o. after_goal holder (current inst.dep o)) there
        ∙ ap (λ b. after_instance holder (if b then Ok goal else Err (book.NoInstance inst))) inside

    locked_plan : (t : ℕ) → asked.is_wanted records inst ≡ true → asked.lock_holder records (Some inst.dep) ≡ Some t
        → alteration_plan k inst change ≡ Err (book.Locked t)
    locked_plan t wanted held =
        let it : (goal : Goal) × (goal_of records inst.dep ≡ Some goal) × (is_in goal inst ≡ true) =
        wanted_there inst (goal_of records inst.dep) wanted in
        wanted_plan it.0 (sym (goals_are inst.dep) ∙ it.1) it.2
        ∙ ap (λ o. after_free (unlocked o) (made it.0)) (locks_are (Some inst.dep) (Some t) held)

    missing_plan : asked.is_recorded records inst.dep ≡ false
        → alteration_plan k inst change ≡ Err (book.NoDeployment inst.dep)
    missing_plan out = ap (λ o. after_goal holder (current inst.dep o)) (no_deployment inst.dep out)

    unwanted_plan : asked.is_recorded records inst.dep ≡ true → asked.is_wanted records inst ≡ false
        → alteration_plan k inst change ≡ Err (book.NoInstance inst)
    unwanted_plan there out =
        let it : (goal : Goal) × (goal_of records inst.dep ≡ Some goal) = goal_there (deployment_of records inst.dep) there in
        ap (λ o. after_goal holder (current inst.dep o)) (sym (goals_are inst.dep) ∙ it.1)
        ∙ ap (λ b. after_instance holder (if b then Ok it.0 else Err (book.NoInstance inst)))
        (sym (ap (λ o. option_map_or (λ goal. is_in goal inst) o false) it.1) ∙ out)

    -- what is made anew of a goal
    made_as : (goal : Goal) (answer : Result Goal GoalFault)
        → anew inst change (recorded_config records.config) (view_of records inst.dep) goal ≡ answer
        → made goal ≡ answered answer
    made_as goal answer is = ap answered
        ((λ i. anew inst change (recorded_config (sym over.config i)) (sym (over.views inst.dep) i) goal) ∙ is)

    -- where nobody has the lock
    free_plan : (goal : Goal) (answer : Result Goal GoalFault) → asked.is_wanted records inst ≡ true
        → asked.lock_holder records (Some inst.dep) ≡ None → goal_of records inst.dep ≡ Some goal
        → anew inst change (recorded_config records.config) (view_of records inst.dep) goal ≡ answer
        → alteration_plan k inst change ≡ after_free (Ok true) (answered answer)
    free_plan goal answer wanted free recorded is =
        wanted_plan goal (sym (goals_are inst.dep) ∙ recorded)
        (sym (ap (λ o. option_map_or (λ goal. is_in goal inst) o false) recorded) ∙ wanted)
        ∙ (λ i. after_free (unlocked (locks_are (Some inst.dep) None free i)) (made_as goal answer is i))

    pub refused_change : (fault : BookFault) → RefusesChange inst change fault
        → IsCause records (asked.is_wanted records inst ≡ true) (Some inst.dep) (RenewsOver records inst change) fault
        → (fault ≡ book.Memory) ⊎ (Err fault ≡ alteration_plan k inst change)
    refused_change (book.Locked task) refuses cause = inr (sym (locked_plan task cause.0 cause.1))
    refused_change (book.NoDeployment name) refuses cause =
        inr (ap (λ name. Err (book.NoDeployment name)) refuses
        ∙ sym (missing_plan (sym (ap (asked.is_recorded records) refuses) ∙ cause)))
    refused_change (book.NoInstance other) refuses cause =
        inr (ap (λ other. Err (book.NoInstance other)) refuses
        ∙ sym (unwanted_plan (sym (ap (λ (i : Inst). asked.is_recorded records i.dep) refuses) ∙ cause.0)
        (sym (ap (asked.is_wanted records) refuses) ∙ cause.1)))
    refused_change (book.Goal fault) refuses cause =
        let why : RenewsOver records inst change (Err fault) = cause.2.why in
        inr (ap Err (sym cause.2.told)
        ∙ sym (free_plan why.current (Err fault) cause.0 cause.1 why.recorded
        (answered_fault fault _ cause.2.told why.goal)))
    refused_change book.Memory refuses cause = inl refl
    refused_change fault refuses cause = absurd refuses

    pub planned_change : (goal : Goal) → asked.is_wanted records inst ≡ true
        → asked.lock_holder records (Some inst.dep) ≡ None → RenewsOver records inst change (Ok goal)
        → Ok (Some goal) ≡ alteration_plan k inst change
    planned_change goal wanted free over = sym (free_plan over.current (Ok goal) wanted free over.recorded over.goal)

  -- ---- deletions

  module _ (dep : List ℕ) where
    abbrev after_use : Option ℕ → Option Joint → Result Goal BookFault → Plan
    after_use holder by whole = do
      it ← whole
      unheld ← unlocked holder
      unused ← unconsumed by
      Ok (Some (nothing dep))

    -- what is planned, of a deployment that is recorded or not
    deletes_as : (o : Option Goal) (holder : Option ℕ) (by : Option Joint) → k.goal dep ≡ o
        → asked.lock_holder records (Some dep) ≡ holder
        → first_consumer (nothing dep) records.deployments.places.entries ≡ by
        → deletion_plan k dep ≡ after_use holder by (current dep o)
    deletes_as o holder by there held uses = λ i.
        after_use (locks_are (Some dep) holder held i) ((sym (over.consumers (nothing dep)) ∙ uses) i) (current dep (there i))

    pub refused_deletion : (fault : BookFault) → RefusesDeletion dep fault
        → IsCause records (asked.is_recorded records dep ≡ true) (Some dep) (Is (nothing dep)) fault
        → (fault ≡ book.Memory) ⊎ (Err fault ≡ deletion_plan k dep)
    refused_deletion (book.Locked task) refuses cause =
        let it : (goal : Goal) × (k.goal dep ≡ Some goal) = a_deployment dep cause.0 in
        inr (sym (deletes_as (Some it.0) (Some task) _ it.1 cause.1 refl))
    refused_deletion (book.NoDeployment name) refuses cause =
        inr (ap (λ name. Err (book.NoDeployment name)) refuses
        ∙ sym (deletes_as None _ _ (no_deployment dep (sym (ap (asked.is_recorded records) refuses) ∙ cause)) refl refl))
    refused_deletion (book.Consumed by) refuses cause =
        let it : (goal : Goal) × (k.goal dep ≡ Some goal) = a_deployment dep cause.0 in
        let uses : IsConsumer records (Is (nothing dep)) by = cause.2 in
        inr (sym (deletes_as (Some it.0) None (Some by) it.1 cause.1
        (ap (λ goal. first_consumer goal records.deployments.places.entries) (the_goal uses.goal uses.given) ∙ uses.first)))
      where
        the_goal : (goal : Goal) → Is (nothing dep) (Ok goal) → nothing dep ≡ goal
        the_goal goal is = let same : Is (nothing dep) (Ok goal) = is in cc
    refused_deletion book.Memory refuses cause = inl refl
    refused_deletion fault refuses cause = absurd refuses

    pub planned_deletion : asked.is_recorded records dep ≡ true → asked.lock_holder records (Some dep) ≡ None
        → first_consumer (nothing dep) records.deployments.places.entries ≡ None
        → Ok (Some (nothing dep)) ≡ deletion_plan k dep
    planned_deletion there free unused =
        let it : (goal : Goal) × (k.goal dep ≡ Some goal) = a_deployment dep there in
        sym (deletes_as (Some it.0) None None it.1 free unused)

  -- ---- disks

  abbrev after_there : Option ℕ → Result Bool BookFault → Plan
  after_there holder there = do
    it ← there
    unheld ← unlocked holder
    Ok None

  abbrev after_lock : Result Bool BookFault → Plan
  after_lock unheld = do
    it ← unheld
    Ok None

  abbrev is_orphan : ℕ → Bool → Bool → Result Bool BookFault
  is_orphan disk orphan owned =
      if orphan then Ok true else if owned then Err (book.NotOrphaned disk) else Err (book.NoDisk disk)

  module _ (disk : ℕ) where
    deletes_disk_as : (orphan owned : Bool) (holder : Option ℕ) → asked.is_orphaned records disk ≡ orphan
        → asked.is_owned records disk ≡ owned → asked.lock_holder records None ≡ holder
        → disk_deletion_plan k disk ≡ after_there holder (is_orphan disk orphan owned)
    deletes_disk_as orphan owned holder there has held = λ i.
        after_there (locks_are None holder held i)
        (is_orphan disk ((sym (over.read.orphaned disk) ∙ there) i) ((sym (over.owned disk) ∙ has) i))

    pub refused_disk : (fault : BookFault) → RefusesDisk disk fault
        → IsCause records (asked.is_orphaned records disk ≡ true) None HasNone fault
        → (fault ≡ book.Memory) ⊎ (Err fault ≡ disk_deletion_plan k disk)
    refused_disk (book.Locked task) refuses cause =
        inr (sym (deletes_disk_as true _ (Some task) cause.0 refl cause.1))
    refused_disk (book.NoDisk other) refuses cause =
        inr (ap (λ disk. Err (book.NoDisk disk)) refuses
        ∙ sym (deletes_disk_as false false _ (sym (ap (asked.is_orphaned records) refuses) ∙ cause.0)
        (sym (ap (asked.is_owned records) refuses) ∙ cause.1) refl))
    refused_disk (book.NotOrphaned other) refuses cause =
        inr (ap (λ disk. Err (book.NotOrphaned disk)) refuses
        ∙ sym (deletes_disk_as false true _ (sym (ap (asked.is_orphaned records) refuses) ∙ cause.0)
        (sym (ap (asked.is_owned records) refuses) ∙ cause.1) refl))
    refused_disk book.Memory refuses cause = inl refl
    refused_disk fault refuses cause = absurd refuses

    pub planned_disk : asked.is_orphaned records disk ≡ true → asked.lock_holder records None ≡ None
        → Ok None ≡ disk_deletion_plan k disk
    planned_disk there free = sym (deletes_disk_as true _ None there refl free)

  cleans_up_as : (holder : Option ℕ) → asked.lock_holder records None ≡ holder
      → clean_up_plan k ≡ after_lock (unlocked holder)
  cleans_up_as holder held = ap (λ o. after_lock (unlocked o)) (locks_are None holder held)

  pub refused_clean_up : (fault : BookFault) → RefusesCleanUp fault → IsCause records (Unit {0}) None HasNone fault
      → (fault ≡ book.Memory) ⊎ (Err fault ≡ clean_up_plan k)
  refused_clean_up (book.Locked task) refuses cause = inr (sym (cleans_up_as (Some task) cause.1))
  refused_clean_up book.Memory refuses cause = inl refl
  refused_clean_up fault refuses cause = absurd refuses

  pub planned_clean_up : asked.lock_holder records None ≡ None → Ok None ≡ clean_up_plan k
  planned_clean_up free = sym (cleans_up_as None free)

  -- ---- deploys

  module _ (it : Deploy) where
    abbrev name : List ℕ
    name = it.manifest.name

    -- the goal of the manifest over records is that over what is known
    answers_goal : (answer : Result Goal GoalFault) → asked.lock_holder records (Some name) ≡ None
        → GivesOver records it answer → AnswersGoal k it answer
    answers_goal answer free given = record {
      is_free = locks_are (Some name) None free;
      sound = subst AreSound over.releases given.sound;
      goal =
          subst (λ (v : View). IsGoal it.manifest (recorded_config k.config) k.releases k.stemcells v it.recreate answer)
          (over.views name)
          (subst (λ (s : List Stemcell). IsGoal it.manifest (recorded_config k.config) k.releases s (view_of records name)
          it.recreate answer) over.stemcells
          (subst (λ (r : List Release). IsGoal it.manifest (recorded_config k.config) r records.stemcells.items
          (view_of records name) it.recreate answer) over.releases
          (subst (λ (c : Option (List ℕ)). IsGoal it.manifest (recorded_config c) records.releases.items
          records.stemcells.items (view_of records name) it.recreate answer) over.config given.goal)));
    }

    pub refused_deploy : (fault : BookFault) → RefusesDeploy it fault
        → IsCause records (Unit {0}) (Some name) (GivesOver records it) fault
        → (fault ≡ book.Memory) ⊎ PlansDeploy k it (Err fault)
    refused_deploy (book.Locked task) refuses cause = inr (locked task (locks_are (Some name) (Some task) cause.1) refl)
    refused_deploy (book.Differs other) refuses cause =
        inr (differs (locks_are (Some name) None cause.free)
        (λ sound. cause.bad (subst AreSound (sym over.releases) sound))
        (ap Err (sym cause.told ∙ ap unsound over.releases)))
    refused_deploy (book.Goal fault) refuses cause =
        inr (no_goal fault (answers_goal (Err fault) cause.1 cause.2.why) (ap Err (sym cause.2.told)))
    refused_deploy (book.Consumed by) refuses cause =
        let uses : IsConsumer records (GivesOver records it) by = cause.2 in
        inr (consumed uses.goal by (answers_goal (Ok uses.goal) cause.1 uses.given)
        (sym (over.consumers uses.goal) ∙ uses.first) refl)
    refused_deploy book.Limit refuses cause =
        let exceeds : ExceedsLimit records (Some name) (GivesOver records it) = cause.1 in
        inr (too_many exceeds.goal (answers_goal (Ok exceeds.goal) cause.0 exceeds.given)
        (sym (over.consumers exceeds.goal) ∙ exceeds.unused) (sym (over.room name) ∙ exceeds.full) refl)
    refused_deploy book.Memory refuses cause = inl refl
    refused_deploy fault refuses cause = absurd refuses

    pub planned_deploy : (goal : Goal) → asked.lock_holder records (Some name) ≡ None → GivesOver records it (Ok goal)
        → first_consumer goal records.deployments.places.entries ≡ None → asked.lacks_room records name ≡ false
        → PlansDeploy k it (Ok (Some goal))
    planned_deploy goal free given unused room =
        planned goal (answers_goal (Ok goal) free given) (sym (over.consumers goal) ∙ unused) (sym (over.room name) ∙ room)
        refl

  -- ---- of any kind

  pub refused_as : (ask : Ask) (fault : BookFault) → MayRefuse ask fault
      → IsCause records (IsNamed records ask) (dep_of ask) (GoalOver records ask) fault
      → (fault ≡ book.Memory) ⊎ PlansAsk k ask (Err fault)
  refused_as (asks.Deploy it) fault refuses cause = refused_deploy it fault refuses cause
  refused_as (asks.Recreate inst) fault refuses cause = refused_change inst changes.Fresh fault refuses cause
  refused_as (asks.Start inst) fault refuses cause = refused_change inst (changes.To Running) fault refuses cause
  refused_as (asks.Halt inst hard) fault refuses cause = refused_change inst (halting hard) fault refuses cause
  refused_as (asks.DeleteDeployment dep) fault refuses cause = refused_deletion dep fault refuses cause
  refused_as (asks.DeleteDisk disk) fault refuses cause = refused_disk disk fault refuses cause
  refused_as asks.CleanUp fault refuses cause = refused_clean_up fault refuses cause
  refused_as (asks.Resolve inst) fault refuses cause = refused_change inst changes.Same fault refuses cause
