-- Links across deployments: that they are offered is kept by each move.
use Rattle.std.proofs.Common.{◌≡◌, ℕ, Bool, true, false, ◌&&◌, Option, Some, None, List, [], ◌∷◌, refl, ap, sym, ◌∙◌, subst, arith}
use Rattle.std.specs.Prelude.{length, nat_le, not, is_some}
use Rattle.std.specs.List.{list_all}
use Rattle.std.specs.Str.{bytes_eq}
use Rattle.bosh_base.specs.declared.entry.Entry.{Entry}
use Rattle.bosh_base.specs.declared.entry.Entry.TheVariants as entries
use Rattle.bosh_base.specs.declared.goal.Goal.{Goal}
use Rattle.bosh_base.specs.declared.link.Joint.{Joint}
use Rattle.bosh_base.specs.declared.link.Tie.{Tie}
use Rattle.bosh_base.specs.declared.moves.Move.{Move}
use Rattle.bosh_base.specs.declared.offer.Offer.{Offer}
use Rattle.bosh_base.specs.declared.task.TaskKind.{TaskKind}
use Rattle.bosh_base.specs.declared.task.TaskKind.TheVariants as kinds
use Rattle.laws_facts.proofs.CurrentLemmas.{done_works}
use Rattle.laws_facts.proofs.FrameLemmas.{goals_begin, goals_end, goals_updated}
use Rattle.laws_facts.proofs.ListLemmas.{bytes_tells}
use Rattle.laws_facts.proofs.MoveLemmas.{by_followed}
use Rattle.laws_facts.specs.KnownFacts.{KnownFacts}
use Rattle.laws_facts.specs.Goals.{is_offered_now}
use Rattle.laws_facts.specs.Kept.{AreTiesKept, AreTied}
use Rattle.laws_facts.specs.TaskFacts.{WorkFacts}
use Rattle.laws_facts.specs.Tasks.{is_of, lists_instances, lists_well}
use Rattle.laws_row_facts.specs.Words.{where_any}
use Rattle.bosh_history.specs.Deletions.{is_clean_up}
use Rattle.bosh_history.specs.Goals.{is_in}
use Rattle.bosh_history.specs.Held.{is_offered}
use Rattle.bosh_history.specs.Known.{Known, Task, dep_of_task}
use Rattle.bosh_history.specs.Learn.{learn}
use Rattle.bosh_history.specs.Links.{is_kept}
use Rattle.bosh_history.specs.Moments.{Moment, later}
use Rattle.bosh_history.specs.Notes.{MayNote, Outside, is_task_open}
use Rattle.bosh_history.specs.Permitted.{IsPermitted}
use Rattle.bosh_history.specs.Recovered.{may_follow}
use Rattle.bosh_history.specs.Sound.{is_empty_goal}
use Rattle.bosh_history.specs.Known.{offers_in}
use Rattle.bosh_history.specs.Tasks.{settles}
use Rattle.bosh_rows.specs.Same.{same_inst}
use Rattle.bosh_rows.specs.Standing.{is_empty}
use Rattle.bosh_history.specs.Words.{at, holds}
use Rattle.bosh_rows.specs.SoundSnapshot.{are_distinct}
use Rattle.laws_facts.proofs.LinkLemmas.{all_from, all_from_both, ties_now, ties_opened, ties_same}

-- ---- a task is done

-- a task of a deployment that works has its goal
goal_of_task : (t : Task) → lists_well t ≡ true → is_clean_up t.kind ≡ false
    → (is_some t.dep ≡ true) × (is_some t.goal ≡ true)
goal_of_task t lists kind = by t.dep t.goal refl refl
  where
    by : (its : Option (List ℕ)) (that : Option Goal) → t.dep ≡ its → t.goal ≡ that
        → (is_some t.dep ≡ true) × (is_some t.goal ≡ true)
    by (Some its) (Some that) a b = (ap is_some a, ap is_some b)
    by None that a b = absurd (grind (arith, lists, kind, a))
    by (Some its) None a b = absurd (grind (arith, lists, kind, a, b))

-- what is offered now is offered by the deploy that is done
done_offers : (k : Known) (named dep : List ℕ) (goal : Goal) → AreTied k dep goal
    → AreTied (record k { shared = at bytes_eq named (offers_in (k.goal named)) k.shared }) dep goal
done_offers k named dep goal tied = record {
  done = all_from_both (is_kept k dep) (is_offered_now k dep)
      (is_kept (record k { shared = at bytes_eq named (offers_in (k.goal named)) k.shared }) dep)
      (λ tie kept now. by tie kept now (k.goal named) refl) goal.ties tied.done tied.now;
  now = tied.now;
}
  where
    by : (tie : Tie) → is_kept k dep tie ≡ true → is_offered_now k dep tie ≡ true → (its : Option Goal)
        → k.goal named ≡ its
        → is_kept (record k { shared = at bytes_eq named (offers_in (k.goal named)) k.shared }) dep tie ≡ true
    by tie kept now (Some its) is = grind (arith, kept, now, is, bytes_tells named tie.provider.dep)
    by tie kept now None is = grind (arith, kept, now, is, bytes_tells named tie.provider.dep)

-- nothing is offered by an empty goal
none_offered : (joint : Joint) (kind : List ℕ) (offers : List Offer) → nat_le (length offers) 0 ≡ true
    → is_offered joint kind offers ≡ false
none_offered joint kind [] none = refl
none_offered joint kind (offer ∷ offers) none = absurd (grind (arith, none))

-- what a deletion leaves
abbrev pub deleted_known : Known → List ℕ → Known
deleted_known k named = record k {
  goal = at bytes_eq named None k.goal;
  shared = at bytes_eq named [] k.shared;
}

deleted_ties : (k : Known) (named dep : List ℕ) (goal its : Goal) → k.goal named ≡ Some its
    → nat_le (length its.offers) 0 ≡ true
    → AreTied k dep goal → AreTied (deleted_known k named) dep goal
deleted_ties k named dep goal its is none tied = record {
  done = all_from_both (is_kept k dep) (is_offered_now k dep) (is_kept (deleted_known k named) dep)
      (λ tie kept now. grind (
        arith,
        kept,
        now,
        is,
        none_offered tie.provider tie.kind its.offers none,
        bytes_tells named
            tie.provider.dep,
      ))
      goal.ties tied.done tied.now;
  now = all_from (is_offered_now k dep) (is_offered_now (deleted_known k named) dep)
      (λ tie now. grind
      (arith, now, is, none_offered tie.provider tie.kind its.offers none, bytes_tells named tie.provider.dep))
      goal.ties tied.now;
}

and_right : (a b : Bool) → (a && b) ≡ true → b ≡ true
and_right true b is = is
and_right false b is = absurd cc

-- the goal of a deletion offers nothing
empty_offers : (goal : Goal) → is_empty_goal goal ≡ true → nat_le (length goal.offers) 0 ≡ true
empty_offers goal empty = grind (arith, empty)

empties : (t : Task) (its : Goal) → t.kind ≡ kinds.DeleteDeployment → t.goal ≡ Some its → lists_well t ≡ true
    → nat_le (length its.offers) 0 ≡ true
empties t its kind is lists =
    let now : lists_instances (record t { kind = kinds.DeleteDeployment }) ≡ true =
    sym (λ i. lists_well (record t { kind = kind i })) ∙ lists in
    let last : holds is_empty_goal t.goal ≡ true =
    and_right (is_empty t.disks) (holds is_empty_goal t.goal)
    (and_right (are_distinct same_inst t.to_ping) (is_empty t.disks && holds is_empty_goal t.goal)
    (and_right (are_distinct same_inst t.obsolete)
    (are_distinct same_inst t.to_ping && (is_empty t.disks && holds is_empty_goal t.goal))
    (and_right (are_distinct same_inst t.changed)
    (are_distinct same_inst t.obsolete &&
    (are_distinct same_inst t.to_ping && (is_empty t.disks && holds is_empty_goal t.goal)))
    (and_right (where_any (λ dep. list_all (is_of dep) t.to_ping) t.dep)
    (are_distinct same_inst t.changed &&
    (are_distinct same_inst t.obsolete &&
    (are_distinct same_inst t.to_ping && (is_empty t.disks && holds is_empty_goal t.goal))))
    (and_right (where_any (λ dep. list_all (λ i. is_of dep i && not (is_in t.goal i)) t.obsolete) t.dep)
    (where_any (λ dep. list_all (is_of dep) t.to_ping) t.dep &&
    (are_distinct same_inst t.changed &&
    (are_distinct same_inst t.obsolete &&
    (are_distinct same_inst t.to_ping && (is_empty t.disks && holds is_empty_goal t.goal)))))
    (and_right (list_all (is_in t.goal) t.changed)
    (where_any (λ dep. list_all (λ i. is_of dep i && not (is_in t.goal i)) t.obsolete) t.dep &&
    (where_any (λ dep. list_all (is_of dep) t.to_ping) t.dep &&
    (are_distinct same_inst t.changed &&
    (are_distinct same_inst t.obsolete &&
    (are_distinct same_inst t.to_ping && (is_empty t.disks && holds is_empty_goal t.goal))))))
    (and_right (holds (λ dep. holds (λ goal. bytes_eq goal.dep dep) t.goal) t.dep)
    (list_all (is_in t.goal) t.changed &&
    (where_any (λ dep. list_all (λ i. is_of dep i && not (is_in t.goal i)) t.obsolete) t.dep &&
    (where_any (λ dep. list_all (is_of dep) t.to_ping) t.dep &&
    (are_distinct same_inst t.changed &&
    (are_distinct same_inst t.obsolete &&
    (are_distinct same_inst t.to_ping && (is_empty t.disks && holds is_empty_goal t.goal))))))) now))))))) in
    empty_offers its (ap (holds is_empty_goal) (sym is) ∙ last)

ties_done : (m : Moment) → KnownFacts m → (done : ℕ) → may_follow m (entries.TaskDone done) ≡ true
    → is_task_open m.known done ≡ true
    → AreTiesKept (settles (m.known.task done).kind (m.known.task done).goal (dep_of_task m.known done) m.known)
ties_done m h done follows may dep goal is = by (m.known.task done).kind refl is
  where
    at_work : WorkFacts m done
    at_work = (h.tasks done).working (done_works m done follows may)

    old : m.known.goal dep ≡ Some goal → AreTied m.known dep goal
    old was = record { done = (h.goals dep goal was).offered_when_done; now = (h.goals dep goal was).offered_now }

    its_goal : is_clean_up (m.known.task done).kind ≡ false
        → m.known.goal (dep_of_task m.known done) ≡ (m.known.task done).goal
    its_goal kind = named (m.known.task done).dep refl
      where
        named : (its : Option (List ℕ)) → (m.known.task done).dep ≡ its
            → m.known.goal (dep_of_task m.known done) ≡ (m.known.task done).goal
        named (Some its) same = grind (arith, same, at_work.current its same)
        named None same = absurd (grind (arith, same, (goal_of_task (m.known.task done) at_work.lists_well kind).0))

    deployed : is_clean_up (m.known.task done).kind ≡ false → m.known.goal dep ≡ Some goal
        → AreTied
        (record m.known {
          shared = at bytes_eq (dep_of_task m.known done)
              (offers_in (m.known.task done).goal) m.known.shared;
        }) dep goal
    deployed kind was =
        subst (λ (that : Option Goal). AreTied
        (record m.known { shared = at bytes_eq (dep_of_task m.known done) (offers_in that) m.known.shared })
        dep goal)
        (its_goal kind) (done_offers m.known (dep_of_task m.known done) dep goal (old was))

    by : (kind : TaskKind) → (m.known.task done).kind ≡ kind
        → (settles kind (m.known.task done).goal (dep_of_task m.known done) m.known).goal dep ≡ Some goal
        → AreTied (settles kind (m.known.task done).goal (dep_of_task m.known done) m.known) dep goal
    by kinds.Deploy kind was = deployed (ap is_clean_up kind) was
    by kinds.Fix kind was = deployed (ap is_clean_up kind) was
    by kinds.DeleteDeployment kind was =
        let tied : AreTied (deleted_known m.known (dep_of_task m.known done)) dep goal = gone
        (m.known.task done).goal refl in
        record { done = tied.done; now = tied.now }
      where
        here : m.known.goal dep ≡ Some goal
        here = grind (arith, was, bytes_tells (dep_of_task m.known done) dep)

        gone : (that : Option Goal) → (m.known.task done).goal ≡ that
            → AreTied (deleted_known m.known (dep_of_task m.known done)) dep goal
        gone (Some that) same =
            deleted_ties m.known (dep_of_task m.known done) dep goal that (its_goal (ap is_clean_up kind) ∙ same)
            (empties (m.known.task done) that kind same at_work.lists_well) (old here)
        gone None same = absurd
            (grind (arith, same, (goal_of_task (m.known.task done) at_work.lists_well (ap is_clean_up kind)).1))
    by kind same was = old was

-- ---- entries

ties_note : (outside : Outside) (m : Moment) → KnownFacts m → (e : Entry) → may_follow m e ≡ true
    → MayNote outside m e → AreTiesKept (learn m.known e)
ties_note outside m h (entries.Begin b) follows may dep goal is =
    ties_same m.known (learn m.known (entries.Begin b)) (goals_begin m b) (ties_now m h) dep goal is
ties_note outside m h (entries.End e) follows may dep goal is =
    ties_same m.known (learn m.known (entries.End e)) (goals_end m e.n e.answer) (ties_now m h) dep goal is
ties_note outside m h (entries.TaskOpen o) follows may dep goal is =
    ties_opened m h o may.0 (may.1) dep goal is
ties_note outside m h (entries.UpdDone u) follows may dep goal is =
    ties_same m.known (learn m.known (entries.UpdDone u)) (goals_updated m u.task u.inst) (ties_now m h) dep goal is
ties_note outside m h (entries.TaskDone done) follows may dep goal is =
    let tied : AreTied
    (settles (m.known.task done).kind (m.known.task done).goal (dep_of_task m.known done) m.known) dep goal =
    ties_done m h done follows may.is_open dep goal is in
    record { done = tied.done; now = tied.now }
ties_note outside m h (entries.Snapshot s) follows may dep goal is = absurd may
ties_note outside m h entry follows may dep goal is =
    record { done = (ties_now m h dep goal is).done; now = (ties_now m h dep goal is).now }

pub ties_kept : (outside : Outside) (m : Moment) (move : Move) → IsPermitted outside m move
    → KnownFacts m → AreTiesKept (later m move).known
ties_kept outside m move may h =
    by_followed outside AreTiesKept m (λ e follows also. ties_note outside m h e follows also)
    (ties_now m h) move may
