-- Links across deployments, as a task opens.
use Rattle.std.proofs.Common.{◌≡◌, ℕ, Bool, true, false, Option, Some, None, List, [], ◌∷◌, refl, ap, sym, ◌∙◌, subst, inl, inr, arith}
use Rattle.std.specs.Prelude.{◌||◌}
use Rattle.std.specs.List.{list_all}
use Rattle.std.specs.Str.{bytes_eq}
use Rattle.bosh_base.specs.declared.entry.Entry.TheVariants as entries
use Rattle.bosh_base.specs.declared.entry.TaskOpen.{TaskOpen}
use Rattle.bosh_base.specs.declared.goal.Goal.{Goal}
use Rattle.bosh_base.specs.declared.link.Tie.{Tie}
use Rattle.bosh_base.specs.declared.task.TaskKind.{TaskKind}
use Rattle.bosh_base.specs.declared.task.TaskKind.TheVariants as kinds
use Rattle.laws_facts.proofs.FrameLemmas.{SameGoals}
use Rattle.laws_facts.proofs.GoalLemmas.{OpensOf, of_dep, of_none, opens_of, sound_of}
use Rattle.laws_facts.proofs.ListLemmas.{Tells, bytes_tells}
use Rattle.laws_facts.specs.KnownFacts.{KnownFacts}
use Rattle.laws_facts.specs.Goals.{is_offered_now}
use Rattle.laws_facts.specs.Kept.{AreTiesKept, AreTied}
use Rattle.bosh_history.specs.Held.{is_offered}
use Rattle.bosh_history.specs.Known.{offers_in}
use Rattle.bosh_history.specs.Known.{Known}
use Rattle.bosh_history.specs.Learn.{learn}
use Rattle.bosh_history.specs.Links.{is_kept}
use Rattle.bosh_history.specs.Moments.{Moment}
use Rattle.bosh_history.specs.Openings.{MayOpen, OpensBy, OpensDisks, OpensFor, is_offered_still, ties_of, withdraws_nothing}
use Rattle.bosh_history.specs.Sound.{IsSound, is_sound_goal, is_tie_kept}
use Rattle.bosh_history.specs.Tasks.{goal_set}
use Rattle.bosh_history.specs.Words.{at, is_among}

-- ---- lists

-- a test of each item that another, or two others, bring with them
pub all_from : {A : Type 0} (p q : A → Bool) → ((x : A) → p x ≡ true → q x ≡ true) → (items : List A)
    → list_all p items ≡ true → list_all q items ≡ true
all_from p q step [] all = refl
all_from p q step (x ∷ items) all = grind (arith, all, step x, all_from p q step items)

pub all_from_both : {A : Type 0} (p q r : A → Bool) → ((x : A) → p x ≡ true → q x ≡ true → r x ≡ true) → (items : List A)
    → list_all p items ≡ true → list_all q items ≡ true → list_all r items ≡ true
all_from_both p q r step [] all also = refl
all_from_both p q r step (x ∷ items) all also = grind (arith, all, also, step x, all_from_both p q r step items)

-- what holds of each listed deployment holds of one that is listed
all_among : (p : List ℕ → Bool) (dep : List ℕ) (deps : List (List ℕ)) → list_all p deps ≡ true
    → is_among bytes_eq dep deps ≡ true → p dep ≡ true
all_among p dep [] all there = absurd cc
all_among p dep (other ∷ deps) all there = by (bytes_tells dep other) (all_among p dep deps)
  where
    by : Tells bytes_eq dep other → (list_all p deps ≡ true → is_among bytes_eq dep deps ≡ true → p dep ≡ true)
        → p dep ≡ true
    by (inl equal) rest = ap p equal.1 ∙ grind (arith, all)
    by (inr apart) rest = rest (grind (arith, all)) (grind (arith, there, apart))

-- ---- where goals and offers are the same

pub ties_same : (old new : Known) → SameGoals old new → AreTiesKept old → AreTiesKept new
ties_same old new same has dep goal is =
    let now : AreTied old dep goal = has dep goal
    (sym (ap (λ (goals : List ℕ → Option Goal). goals dep) same.goal) ∙ is) in
    record {
      done = (λ i. list_all (λ (tie : Tie). bytes_eq tie.provider.dep dep
          || is_offered tie.provider tie.kind (same.shared i tie.provider.dep)) goal.ties) ∙ now.done;
      now = (λ i. list_all (λ (tie : Tie). bytes_eq tie.provider.dep dep
          || is_offered tie.provider tie.kind (offers_in (same.goal i tie.provider.dep))) goal.ties) ∙ now.now;
    }

pub ties_now : (m : Moment) → KnownFacts m → AreTiesKept m.known
ties_now m h dep goal is = record
    { done = (h.goals dep goal is).offered_when_done; now = (h.goals dep goal is).offered_now }

-- ---- a task opens

-- it withdraws nothing that another goal is tied to
withdraws_for : (k : Known) (o : TaskOpen) (goal : Option Goal) → OpensFor k o goal → (new : Goal) → goal ≡ Some new
    → withdraws_nothing k new ≡ true
withdraws_for k o (Some goal) may new is =
    let same : goal ≡ new = grind (arith, is) in
    subst (λ g. withdraws_nothing k g ≡ true) same may.keeps_links
withdraws_for k o None may new is = absurd may

withdraws_on : (k : Known) (o : TaskOpen) (goal : Option Goal) → OpensDisks k o goal → (new : Goal) → goal ≡ Some new
    → withdraws_nothing k new ≡ true
withdraws_on k o (Some goal) may new is = absurd may
withdraws_on k o None may new is = absurd cc

withdraws_by : (k : Known) (o : TaskOpen) (kind : TaskKind) → OpensBy k o kind → (new : Goal) → o.goal ≡ Some new
    → withdraws_nothing k new ≡ true
withdraws_by k o kinds.CleanUp may new is = withdraws_on k o o.goal may.0 new is
withdraws_by k o (kinds.DeleteDisk d) may new is = withdraws_on k o o.goal may.0 new is
withdraws_by k o kind may new is = withdraws_for k o o.goal may new is

-- a deployment that is listed, and is another one, loses no link
still_offered : (k : Known) (new : Goal) (dep : List ℕ) (goal : Goal) → withdraws_nothing k new ≡ true
    → is_among bytes_eq dep k.deployments ≡ true → k.goal dep ≡ Some goal → bytes_eq dep new.dep ≡ false
    → list_all (is_offered_still new) goal.ties ≡ true
still_offered k new dep goal nothing listed is apart =
    grind (
      arith,
      is,
      apart,
      all_among
          (λ dep. bytes_eq dep new.dep || list_all (is_offered_still new) (ties_of (k.goal dep))) dep k.deployments
          nothing listed,
    )

-- the goals, once one is set
abbrev pub with_goal : Known → List ℕ → Goal → Known
with_goal k named new = record k { goal = at bytes_eq named (Some new) k.goal }

tie_of_new : (k : Known) (new : Goal) (tie : Tie) → is_tie_kept k new tie ≡ true
    → (is_kept k new.dep tie ≡ true) × (is_offered_now (with_goal k new.dep new) new.dep tie ≡ true)
tie_of_new k new tie
    kept = (
      grind (arith, kept),
      grind
          (arith, kept, bytes_tells new.dep tie.provider.dep, bytes_tells tie.provider.dep new.dep),
    )

tied_new : (k : Known) (kind : TaskKind) (new : Goal) → is_sound_goal k kind new ≡ true
    → AreTied (with_goal k new.dep new) new.dep new
tied_new k kind new sound =
    let ties : list_all (is_tie_kept k new) new.ties ≡ true = grind (arith, sound) in
    record {
      done = all_from (is_tie_kept k new) (is_kept k new.dep) (λ tie kept. (tie_of_new k new tie kept).0) new.ties ties;
      now = all_from (is_tie_kept k new) (is_offered_now (with_goal k new.dep new) new.dep)
          (λ tie kept. (tie_of_new k new tie kept).1) new.ties ties;
    }

tied_old : (k : Known) (new : Goal) (dep : List ℕ) (goal : Goal) → list_all (is_offered_still new) goal.ties ≡ true
    → AreTied k dep goal → AreTied (with_goal k new.dep new) dep goal
tied_old k new dep goal still tied = record {
  done = tied.done;
  now = all_from_both (is_offered_still new) (is_offered_now k dep) (is_offered_now (with_goal k new.dep new) dep)
      (λ tie offered now. grind
      (arith, offered, now, bytes_tells new.dep tie.provider.dep, bytes_tells tie.provider.dep new.dep))
      goal.ties still tied.now;
}

pub ties_opened : (m : Moment) → KnownFacts m → (o : TaskOpen) → MayOpen m.known o → IsSound m.known o
    → AreTiesKept (learn m.known (entries.TaskOpen o))
ties_opened m h o may sound dep goal is = by (opens_of m.known o may)
  where
    old : m.known.goal dep ≡ Some goal → AreTied m.known dep goal
    old was = record { done = (h.goals dep goal was).offered_when_done; now = (h.goals dep goal was).offered_now }

    as_it_is : (k : Known) → k.goal ≡ goal_set o.dep o.goal m.known.goal → k.shared ≡ m.known.shared
        → AreTied k dep goal
        → AreTied (learn m.known (entries.TaskOpen o)) dep goal
    as_it_is k goals shared tied = record {
      done = (λ i. list_all (λ (tie : Tie). bytes_eq tie.provider.dep dep
          || is_offered tie.provider tie.kind (sym shared i tie.provider.dep)) goal.ties) ∙ tied.done;
      now = (λ i. list_all (λ (tie : Tie). bytes_eq tie.provider.dep dep
          || is_offered tie.provider tie.kind (offers_in (sym goals i tie.provider.dep))) goal.ties) ∙ tied.now;
    }

    by : OpensOf o → AreTied (learn m.known (entries.TaskOpen o)) dep goal
    by (of_dep named new dep_is goal_is same) =
        as_it_is (with_goal m.known new.dep new)
        ((λ i. at bytes_eq (same i) (Some new) m.known.goal)
        ∙ sym (λ i. goal_set (dep_is i) (goal_is i) m.known.goal)) refl
        (here (bytes_tells new.dep dep))
      where
        now : at bytes_eq new.dep (Some new) m.known.goal dep ≡ Some goal
        now = (λ i. at bytes_eq (same i) (Some new) m.known.goal dep)
            ∙ sym (λ i. goal_set (dep_is i) (goal_is i) m.known.goal dep) ∙ is

        here : Tells bytes_eq new.dep dep → AreTied (with_goal m.known new.dep new) dep goal
        here (inl equal) =
            let goal_same : new ≡ goal = grind (arith, now, equal) in
            let tied : AreTied (with_goal m.known new.dep new) new.dep new =
            tied_new m.known o.kind new (sound_of m.known o new goal_is sound) in
            subst (λ (g : Goal). AreTied (with_goal m.known new.dep new) dep g) goal_same
            (subst (λ d. AreTied (with_goal m.known new.dep new) d new) equal.1 tied)
        here (inr apart) =
            let was : m.known.goal dep ≡ Some goal = grind (arith, now, apart) in
            let listed : is_among bytes_eq dep m.known.deployments ≡ true =
            grind (arith, h.lists.deployment_listed dep, was) in
            let other : bytes_eq dep new.dep ≡ false = grind
            (arith, apart, bytes_tells dep new.dep, λ (e : dep ≡ new.dep). apart.1 (sym e)) in
            tied_old m.known new dep goal
            (still_offered m.known new dep goal (withdraws_by m.known o o.kind may new goal_is) listed was other)
            (old was)
    by (of_none dep_is goal_is) =
        as_it_is m.known (sym (λ i. goal_set (dep_is i) (goal_is i) m.known.goal)) refl
        (old (sym (λ i. goal_set (dep_is i) (goal_is i) m.known.goal dep) ∙ is))
