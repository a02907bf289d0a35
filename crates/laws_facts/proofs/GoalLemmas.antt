-- Current goals: that they are listed and sound is kept by each move.
use Rattle.std.proofs.Common.{◌≡◌, ℕ, Bool, true, false, ◌&&◌, Option, Some, None, List, [], ◌∷◌, ◌++◌, refl, ap, sym, ◌∙◌, subst, inl, inr, arith}
use Rattle.std.specs.Prelude.{is_some, if◌then◌else◌}
use Rattle.std.specs.List.{list_all}
use Rattle.std.specs.Option.{option_eq}
use Rattle.std.specs.Str.{bytes_eq}
use Rattle.std.proofs.lemmas.Bool.{and_parts}
use Rattle.bosh_base.specs.declared.entry.Entry.{Entry}
use Rattle.bosh_base.specs.declared.entry.Entry.TheVariants as entries
use Rattle.bosh_base.specs.declared.entry.TaskOpen.{TaskOpen}
use Rattle.bosh_base.specs.declared.goal.Goal.{Goal}
use Rattle.bosh_base.specs.declared.goal.GoalRow.{GoalRow}
use Rattle.bosh_base.specs.declared.moves.Move.{Move}
use Rattle.bosh_base.specs.declared.task.TaskKind.{TaskKind}
use Rattle.bosh_base.specs.declared.task.TaskKind.TheVariants as kinds
use Rattle.laws_facts.proofs.FrameLemmas.{goals_begin, goals_end, goals_updated}
use Rattle.laws_facts.proofs.ListLemmas.{Tells, among_one_more, among_without, bytes_tells, distinct_one_more, distinct_without}
use Rattle.laws_facts.proofs.MoveLemmas.{by_note}
use Rattle.laws_facts.specs.KnownFacts.{KnownFacts}
use Rattle.laws_facts.specs.Kept.{AreDeploymentsApart, AreDeploymentsListed, AreGoalsSound, IsGoalSound}
use Rattle.laws_facts.specs.Lists.{is_deployment_listed}
use Rattle.bosh_history.specs.Known.{Known, dep_of_task}
use Rattle.bosh_history.specs.Learn.{learn}
use Rattle.bosh_history.specs.Moments.{Moment, later}
use Rattle.bosh_history.specs.Notes.{MayNote, Outside}
use Rattle.bosh_history.specs.Openings.{MayOpen, OpensBy, OpensDisks, OpensFor}
use Rattle.bosh_history.specs.Permitted.{IsPermitted}
use Rattle.bosh_history.specs.Sound.{IsSound, has_plan, is_in_bounds, is_row_of, is_sound, is_sound_goal}
use Rattle.bosh_history.specs.Tasks.{deployment_listed, goal_set, listed, settles}
use Rattle.bosh_history.specs.Words.{at, is_among}
use Rattle.bosh_rows.specs.SoundSnapshot.{are_distinct}
use Rattle.bosh_rows.specs.Standing.{same_truth}

-- ---- what a task opens with

-- a goal of its deployment, or nothing where it is of none
pub data OpensOf (o : TaskOpen) : Type 0 where
  of_dep : (dep : List ℕ) (goal : Goal) → o.dep ≡ Some dep → o.goal ≡ Some goal → goal.dep ≡ dep → OpensOf o
  of_none : o.dep ≡ None → o.goal ≡ None → OpensOf o

dep_named : (dep : Option (List ℕ)) (named : List ℕ) → option_eq bytes_eq dep (Some named) ≡ true → dep ≡ Some named
dep_named (Some dep) named is = grind (arith, bytes_tells dep named)
dep_named None named is = absurd cc

of_for : (k : Known) (o : TaskOpen) (goal : Option Goal) → o.goal ≡ goal → OpensFor k o goal → OpensOf o
of_for k o (Some goal) is may = of_dep goal.dep goal (dep_named o.dep goal.dep may.of_the_deployment) is refl
of_for k o None is may = absurd may

of_disks : (k : Known) (o : TaskOpen) (goal : Option Goal) → o.goal ≡ goal → OpensDisks k o goal → OpensOf o
of_disks k o (Some goal) is may = absurd may
of_disks k o None is may = of_none may.of_none is

of_kind : (k : Known) (o : TaskOpen) (kind : TaskKind) → OpensBy k o kind → OpensOf o
of_kind k o kinds.CleanUp may = of_disks k o o.goal refl may.0
of_kind k o (kinds.DeleteDisk d) may = of_disks k o o.goal refl may.0
of_kind k o kind may = of_for k o o.goal refl may

pub opens_of : (k : Known) (o : TaskOpen) → MayOpen k o → OpensOf o
opens_of k o may = of_kind k o o.kind may

-- ---- a deployment is listed where it has a goal

-- it is so where its list and its goals are the same
listed_same : (old new : Known) → new.deployments ≡ old.deployments → new.goal ≡ old.goal → AreDeploymentsListed old
    → AreDeploymentsListed new
listed_same old new deployments goal has dep =
    (λ i. same_truth (is_among bytes_eq dep (deployments i)) (is_some (goal i dep))) ∙ has dep

listed_opened : (k : Known) (dep : List ℕ) (goal : Goal) → AreDeploymentsListed k → (other : List ℕ)
    → same_truth (is_among bytes_eq other (listed dep k.deployments))
    (is_some (at bytes_eq dep (Some goal) k.goal other)) ≡ true
listed_opened k dep goal has other = by (is_among bytes_eq dep k.deployments) refl
  where
    by : (b : Bool) → is_among bytes_eq dep k.deployments ≡ b
        → same_truth (is_among bytes_eq other (if b then k.deployments else k.deployments ++ dep ∷ []))
        (is_some (at bytes_eq dep (Some goal) k.goal other)) ≡ true
    by true is = grind (arith, bytes_tells dep other, has other, has dep, is)
    by false is = grind (
      arith,
      bytes_tells dep other,
      bytes_tells other dep,
      has other,
      among_one_more bytes_eq bytes_tells other
          dep k.deployments,
    )

listed_note : (outside : Outside) (m : Moment) (e : Entry) → MayNote outside m e → AreDeploymentsListed m.known
    → AreDeploymentsListed (learn m.known e)
listed_note outside m (entries.Begin b) may has other =
    listed_same m.known (learn m.known (entries.Begin b)) (goals_begin m b).deployments (goals_begin m b).goal has other
listed_note outside m (entries.End e) may has other =
    listed_same m.known (learn m.known (entries.End e)) (goals_end m e.n e.answer).deployments
    (goals_end m e.n e.answer).goal has other
listed_note outside m (entries.TaskOpen o) may has other = by (opens_of m.known o may.0)
  where
    by : OpensOf o
        → same_truth (is_among bytes_eq other (deployment_listed o.dep m.known.deployments))
        (is_some (goal_set o.dep o.goal m.known.goal other)) ≡ true
    by (of_dep dep goal dep_is goal_is same) =
        (λ i. same_truth (is_among bytes_eq other (deployment_listed (dep_is i) m.known.deployments))
        (is_some (goal_set (dep_is i) (goal_is i) m.known.goal other)))
        ∙ listed_opened m.known dep goal has other
    by (of_none dep_is goal_is) =
        (λ i. same_truth (is_among bytes_eq other (deployment_listed (dep_is i) m.known.deployments))
        (is_some (goal_set (dep_is i) (goal_is i) m.known.goal other)))
        ∙ has other
listed_note outside m (entries.UpdDone u) may has other =
    listed_same m.known (learn m.known (entries.UpdDone u)) (goals_updated m u.task u.inst).deployments
    (goals_updated m u.task u.inst).goal has other
listed_note outside m (entries.TaskDone t) may has other = settled (m.known.task t).kind
  where
    settled : (kind : TaskKind)
        → is_deployment_listed (settles kind (m.known.task t).goal (dep_of_task m.known t) m.known) other ≡ true
    settled kinds.Deploy = has other
    settled kinds.Fix = has other
    settled kinds.DeleteDeployment =
        grind (
          arith,
          has other,
          among_without bytes_eq bytes_tells other
              (dep_of_task m.known t) m.known.deployments,
          bytes_tells (dep_of_task m.known t) other,
        )
    settled kind = has other
listed_note outside m (entries.Snapshot s) may has other = absurd may
listed_note outside m entry may has other = has other

pub listed_kept : (outside : Outside) (m : Moment) (move : Move)
    → IsPermitted outside m move → KnownFacts m
    → AreDeploymentsListed (later m move).known
listed_kept outside m move may h =
    by_note outside AreDeploymentsListed m (λ e also. listed_note outside m e also h.lists.deployment_listed)
    h.lists.deployment_listed move may

-- ---- no deployment is listed twice

apart_opened : (dep : List ℕ) (deps : List (List ℕ)) → are_distinct bytes_eq deps ≡ true
    → are_distinct bytes_eq (listed dep deps) ≡ true
apart_opened dep deps apart = by (is_among bytes_eq dep deps) refl
  where
    by : (b : Bool) → is_among bytes_eq dep deps ≡ b
        → are_distinct bytes_eq (if b then deps else deps ++ dep ∷ []) ≡ true
    by true is = apart
    by false is = distinct_one_more bytes_eq bytes_tells dep deps apart is

apart_note : (outside : Outside) (m : Moment) (e : Entry) → MayNote outside m e → AreDeploymentsApart m.known
    → AreDeploymentsApart (learn m.known e)
apart_note outside m (entries.Begin b) may apart = ap (are_distinct bytes_eq) (goals_begin m b).deployments ∙ apart
apart_note outside m (entries.End e) may apart = ap (are_distinct bytes_eq) (goals_end m e.n e.answer).deployments
    ∙ apart
apart_note outside m (entries.TaskOpen o) may apart = by o.dep
  where
    by : (dep : Option (List ℕ)) → are_distinct bytes_eq (deployment_listed dep m.known.deployments) ≡ true
    by (Some dep) = apart_opened dep m.known.deployments apart
    by None = apart
apart_note outside m (entries.UpdDone u) may apart =
    ap (are_distinct bytes_eq) (goals_updated m u.task u.inst).deployments ∙ apart
apart_note outside m (entries.TaskDone t) may apart = settled (m.known.task t).kind
  where
    settled : (kind : TaskKind)
        → are_distinct bytes_eq (settles kind (m.known.task t).goal (dep_of_task m.known t) m.known).deployments ≡ true
    settled kinds.Deploy = apart
    settled kinds.Fix = apart
    settled kinds.DeleteDeployment =
        distinct_without bytes_eq bytes_tells (dep_of_task m.known t) m.known.deployments apart
    settled kind = apart
apart_note outside m (entries.Snapshot s) may apart = absurd may
apart_note outside m entry may apart = apart

pub apart_kept : (outside : Outside) (m : Moment) (move : Move) → IsPermitted outside m move
    → KnownFacts m
    → AreDeploymentsApart (later m move).known
apart_kept outside m move may h =
    by_note outside AreDeploymentsApart m (λ e also. apart_note outside m e also h.lists.deployments_apart)
    h.lists.deployments_apart move may

-- ---- each current goal is one that a task opened with

sound_parts : (k : Known) (o : TaskOpen) (goal : Goal) → o.goal ≡ Some goal → IsSound k o
    → (is_sound_goal k o.kind goal ≡ true) × (is_in_bounds goal ≡ true)
sound_parts k o goal is sound =
    and_parts (is_sound_goal k o.kind goal) (is_in_bounds goal) (sym (λ i. is_sound k (record o { goal = is i })) ∙ sound)

pub sound_of : (k : Known) (o : TaskOpen) (goal : Goal) → o.goal ≡ Some goal → IsSound k o
    → is_sound_goal k o.kind goal ≡ true
sound_of k o goal is sound = (sound_parts k o goal is sound).0

pub bounds_of : (k : Known) (o : TaskOpen) (goal : Goal) → o.goal ≡ Some goal → IsSound k o → is_in_bounds goal ≡ true
bounds_of k o goal is sound = (sound_parts k o goal is sound).1

rows_of_dep : (k : Known) (goal : Goal) (rows : List GoalRow) → list_all (is_row_of k goal) rows ≡ true
    → list_all (λ want. bytes_eq want.inst.dep goal.dep && has_plan goal want) rows ≡ true
rows_of_dep k goal [] all = refl
rows_of_dep k goal (want ∷ rows) all = grind (arith, all, rows_of_dep k goal rows)

sound_goal : (k : Known) (kind : TaskKind) (goal : Goal) → is_sound_goal k kind goal ≡ true → IsGoalSound goal.dep goal
sound_goal k kind goal sound = record {
  of_dep = refl;
  sound_rows =
      let rows : list_all (is_row_of k goal) goal.rows ≡ true = grind (arith, sound) in
      grind (arith, sound, rows_of_dep k goal goal.rows rows);
  has_slots = grind (arith, sound);
  own_offers = grind (arith, sound);
}

sound_note : (outside : Outside) (m : Moment) (e : Entry) → MayNote outside m e
    → AreGoalsSound m.known → AreGoalsSound (learn m.known e)
sound_note outside m (entries.Begin b) may has dep goal is =
    has dep goal (sym (ap (λ (goals : List ℕ → Option Goal). goals dep) (goals_begin m b).goal) ∙ is)
sound_note outside m (entries.End e) may has dep goal is =
    has dep goal (sym (ap (λ (goals : List ℕ → Option Goal). goals dep) (goals_end m e.n e.answer).goal) ∙ is)
sound_note outside m (entries.TaskOpen o) may has dep goal is = by (opens_of m.known o may.0)
  where
    fresh : (new : Goal) → o.goal ≡ Some new → IsGoalSound new.dep new
    fresh new new_is = sound_goal m.known o.kind new (sound_of m.known o new new_is may.1)

    by : OpensOf o → IsGoalSound dep goal
    by (of_dep named new dep_is goal_is same) = here (bytes_tells named dep)
      where
        now : at bytes_eq named (Some new) m.known.goal dep ≡ Some goal
        now = (λ i. goal_set (sym dep_is i) (sym goal_is i) m.known.goal dep) ∙ is

        here : Tells bytes_eq named dep → IsGoalSound dep goal
        here (inl equal) =
            let goal_same : new ≡ goal = grind (arith, now, equal) in
            let dep_same : new.dep ≡ dep = same ∙ equal.1 in
            subst (λ (g : Goal). IsGoalSound dep g) goal_same
            (subst (λ d. IsGoalSound d new) dep_same (fresh new goal_is))
        here (inr apart) = has dep goal (grind (arith, now, apart))
    by (of_none dep_is goal_is) = has dep goal ((λ i. goal_set (sym dep_is i) (sym goal_is i) m.known.goal dep) ∙ is)
sound_note outside m (entries.UpdDone u) may has dep goal is =
    has dep goal (sym (ap (λ (goals : List ℕ → Option Goal). goals dep) (goals_updated m u.task u.inst).goal) ∙ is)
sound_note outside m (entries.TaskDone t) may has dep goal is = settled (m.known.task t).kind is
  where
    settled : (kind : TaskKind)
        → (settles kind (m.known.task t).goal (dep_of_task m.known t) m.known).goal dep ≡ Some goal
        → IsGoalSound dep goal
    settled kinds.Deploy now = has dep goal now
    settled kinds.Fix now = has dep goal now
    settled kinds.DeleteDeployment now = has dep goal (grind (arith, bytes_tells (dep_of_task m.known t) dep, now))
    settled kind now = has dep goal now
sound_note outside m (entries.Snapshot s) may has dep goal is = absurd may
sound_note outside m entry may has dep goal is = has dep goal is

pub sound_kept : (outside : Outside) (m : Moment) (move : Move) → IsPermitted outside m move
    → KnownFacts m
    → AreGoalsSound (later m move).known
sound_kept outside m move may h =
    by_note outside AreGoalsSound m (λ e also. sound_note outside m e also now) now move may
  where
    now : AreGoalsSound m.known
    now dep goal is = record {
      of_dep = (h.goals dep goal is).of_dep;
      sound_rows = (h.goals dep goal is).sound_rows;
      has_slots = (h.goals dep goal is).has_slots;
      own_offers = (h.goals dep goal is).own_offers;
    }
