-- A deployment that is not recorded offers nothing, after each entry that is permitted.
use Rattle.std.proofs.Common.{◌≡◌, ◌∙◌, ◌++◌, ℕ, Bool, true, false, List, [], ◌∷◌, Option, Some, None, ap, refl, sym}
use Rattle.std.specs.Prelude.{is_some, if◌then◌else◌}
use Rattle.std.specs.List.{list_any}
use Rattle.std.specs.Str.{bytes_eq}
use Rattle.std.proofs.lemmas.Bool.{false≢true, or_parts, true≢false}
use Rattle.std.proofs.lemmas.List.Folds.{list_any-append}
use Rattle.std.proofs.lemmas.Slice.Eq.{bytes_eq-Decides}
use Rattle.bosh_base.specs.declared.entry.Entry.{Entry}
use Rattle.bosh_base.specs.declared.entry.Entry.TheVariants as entries
use Rattle.bosh_base.specs.declared.goal.Goal.{Goal}
use Rattle.bosh_base.specs.declared.offer.Offer.{Offer}
use Rattle.bosh_base.specs.declared.task.TaskKind.{TaskKind}
use Rattle.bosh_base.specs.declared.task.TaskKind.TheVariants as kinds
use Rattle.bosh_history.specs.Known.{Known, dep_named, dep_of_task, offers_in}
use Rattle.bosh_history.specs.Learn.{learn}
use Rattle.bosh_history.specs.Moments.{Moment}
use Rattle.bosh_history.specs.Notes.{MayNote, Outside}
use Rattle.bosh_history.specs.Recovered.{may_follow}
use Rattle.bosh_history.specs.Tasks.{deployment_listed, settles}
use Rattle.bosh_history.specs.Words.{at, is_among, without}
use Rattle.bosh_rows.specs.Standing.{same_truth}
use Rattle.laws_facts.proofs.CurrentLemmas.{done_works}
use Rattle.laws_facts.proofs.FrameLemmas.{SameGoals, goals_begin, goals_end, goals_updated}
use Rattle.laws_facts.specs.KnownFacts.{KnownFacts}
use Rattle.laws_facts.specs.Owners.{works}
use Rattle.bosh_history.specs.Deletions.{is_clean_up}
use Rattle.laws_items.proofs.ListedLemmas.{Lists, disks, instances, lists}
use Rattle.laws_stands_ends.proofs.WithoutLemmas.{any_without}

abbrev Unshared : Known → Type 0
Unshared k = (dep : List ℕ) → is_among bytes_eq dep k.deployments ≡ false → k.shared dep ≡ []

same_unshared : (k new : Known) → SameGoals k new → Unshared k → Unshared new
same_unshared k new same was dep none =
    ap (λ (shared : List ℕ → List Offer). shared dep) same.shared
    ∙ was dep (ap (is_among bytes_eq dep) (sym same.deployments) ∙ none)

-- a task that opens lists its deployment, and no other goes
opened_unshared : (k : Known) (o : Option (List ℕ)) (dep : List ℕ)
    → is_among bytes_eq dep (deployment_listed o k.deployments) ≡ false → is_among bytes_eq dep k.deployments ≡ false
opened_unshared k None dep none = none
opened_unshared k (Some it) dep none = by (list_any (bytes_eq it) k.deployments) none
  where
    by : (b : Bool)
        → is_among bytes_eq dep (if b then k.deployments else k.deployments ++ it ∷ []) ≡ false
        → is_among bytes_eq dep k.deployments ≡ false
    by true none = none
    by false none =
        (or_parts (list_any (bytes_eq dep) k.deployments) (list_any (bytes_eq dep) (it ∷ []))
        (sym (list_any-append (bytes_eq dep) k.deployments (it ∷ [])) ∙ none)).0

flip : (a b : List ℕ) → bytes_eq a b ≡ false → bytes_eq b a ≡ false
flip a b other = by (bytes_eq b a) refl
  where
    by : (c : Bool) → bytes_eq b a ≡ c → c ≡ false
    by false is = refl
    by true is = absurd (true≢false (sym ((bytes_eq-Decides a b).1 (sym ((bytes_eq-Decides b a).0 is))) ∙ other))

-- what a deploy that is done offers is of a deployment that is recorded
shared_unshared : (k : Known) (own : List ℕ) (offers : List Offer) → is_among bytes_eq own k.deployments ≡ true
    → Unshared k → (dep : List ℕ) → is_among bytes_eq dep k.deployments ≡ false
    → at bytes_eq own offers k.shared dep ≡ []
shared_unshared k own offers there was dep none = by (bytes_eq own dep) refl
  where
    by : (b : Bool) → bytes_eq own dep ≡ b → (if b then offers else k.shared dep) ≡ []
    by true same = absurd (true≢false (sym there
        ∙ ap (λ it. is_among bytes_eq it k.deployments) ((bytes_eq-Decides own dep).0 same) ∙ none))
    by false other = was dep none

-- a deployment that is deleted offers nothing
deleted_unshared : (k : Known) (own : List ℕ) → Unshared k → (dep : List ℕ)
    → is_among bytes_eq dep (without bytes_eq own k.deployments) ≡ false → at bytes_eq own [] k.shared dep ≡ []
deleted_unshared k own was dep none = by (bytes_eq own dep) refl
  where
    by : (b : Bool) → bytes_eq own dep ≡ b → (if b then [] else k.shared dep) ≡ []
    by true same = refl
    by false other = was dep
        (sym (any_without bytes_eq (λ a b. (bytes_eq-Decides a b).0) own (bytes_eq dep) (bytes_eq dep)
        (λ x differs. refl) (λ x same. ap (bytes_eq dep) (sym ((bytes_eq-Decides own x).0 same)) ∙ flip own dep other)
        k.deployments)
        ∙ none)

-- ---- a task that is done

module _ (m : Moment) (facts : KnownFacts m) (t : ℕ) (working : works m t ≡ true) where
  abbrev k : Known
  k = m.known

  -- it is of a deployment that is recorded, unless it deletes disks
  recorded : is_clean_up (k.task t).kind ≡ false → is_among bytes_eq (dep_of_task k t) k.deployments ≡ true
  recorded kind = by (lists m t facts working)
    where
      there : (b : Bool) (goal : Option Goal) → is_some goal ≡ true → same_truth b (is_some goal) ≡ true → b ≡ true
      there true goal some same = refl
      there false (Some goal) some same = absurd (false≢true same)
      there false None some same = absurd (false≢true some)

      by : Lists (k.task t) → is_among bytes_eq (dep_of_task k t) k.deployments ≡ true
      by (disks it) = absurd (true≢false (sym it.is_clean_up ∙ kind))
      by (instances it) =
          ap (λ dep. is_among bytes_eq (dep_named dep) k.deployments) it.dep_is
          ∙ there (is_among bytes_eq it.dep k.deployments) (k.goal it.dep)
          (ap is_some (((facts.tasks t).working working).current it.dep it.dep_is ∙ it.goal_is))
          (facts.lists.deployment_listed it.dep)

  settled_unshared : (kind : TaskKind) → (k.task t).kind ≡ kind → Unshared k
      → Unshared (settles kind (k.task t).goal (dep_of_task k t) k)
  settled_unshared kinds.Deploy is was =
      shared_unshared k (dep_of_task k t) (offers_in (k.task t).goal) (recorded (ap is_clean_up is)) was
  settled_unshared kinds.Fix is was =
      shared_unshared k (dep_of_task k t) (offers_in (k.task t).goal) (recorded (ap is_clean_up is)) was
  settled_unshared kinds.DeleteDeployment is was = deleted_unshared k (dep_of_task k t) was
  settled_unshared kind is was = was

pub unshared_after : (outside : Outside) (m : Moment) (e : Entry) → KnownFacts m → MayNote outside m e
    → may_follow m e ≡ true → Unshared m.known → Unshared (learn m.known e)
unshared_after outside m (entries.Begin b) facts may follows was =
    same_unshared m.known (learn m.known (entries.Begin b)) (goals_begin m b) was
unshared_after outside m (entries.End e) facts may follows was =
    same_unshared m.known (learn m.known (entries.End e)) (goals_end m e.n e.answer) was
unshared_after outside m (entries.UpdDone u) facts may follows was =
    same_unshared m.known (learn m.known (entries.UpdDone u)) (goals_updated m u.task u.inst) was
unshared_after outside m (entries.TaskOpen o) facts may follows was =
    λ dep none. was dep (opened_unshared m.known o.dep dep none)
unshared_after outside m (entries.TaskDone t) facts may follows was =
    settled_unshared m facts t (done_works m t follows may.is_open) (m.known.task t).kind refl was
unshared_after outside m (entries.Snapshot s) facts may follows was = absurd may
unshared_after outside m entry facts may follows was = was
