-- A task that is reported done left what it was asked for: its end changes nothing that this is asked of, but that a
-- deployment that was deleted has no goal any more.
use Rattle.std.proofs.Common.{◌≡◌, ◌∙◌, ℕ, true, false, List, [], ◌∷◌, Some, None}
use Rattle.std.proofs.Common.{ap, refl, sym, arith}
use Rattle.std.specs.Prelude.{eqb, if◌then◌else◌, length, nat_le}
use Rattle.std.specs.Cmp.Lexicographic.{pointwise}
use Rattle.std.specs.List.{list_all}
use Rattle.std.specs.Str.{bytes_eq}
use Rattle.std.proofs.lemmas.Bool.{and_from, and_parts, eq-eqb}
use Rattle.std.proofs.lemmas.Slice.Eq.{bytes_eq-Decides}
use Rattle.bosh_base.specs.declared.entry.Entry.TheVariants as entries
use Rattle.bosh_base.specs.declared.link.Tie.{Tie}
use Rattle.bosh_base.specs.declared.inst.Inst.{Inst}
use Rattle.bosh_base.specs.declared.task.TaskEnd.TheVariants as ends
use Rattle.bosh_base.specs.declared.task.TaskKind.{TaskKind}
use Rattle.bosh_base.specs.declared.task.TaskKind.TheVariants as kinds
use Rattle.laws_facts.specs.Facts.{Holds}
use Rattle.laws_facts.proofs.CurrentLemmas.{done_works}
use Rattle.laws_facts.specs.Owners.{works}
use Rattle.bosh_history.specs.Recovered.{may_follow}
use Rattle.laws_exact.specs.Premises.{WorksWell}
use Rattle.laws_facts.specs.Tasks.{are_of_kind, are_those_of_one}
use Rattle.laws_row_facts.specs.Words.{where_any}
use Rattle.bosh_history.specs.Deletions.{is_clean_up}
use Rattle.bosh_history.specs.Exact.{has_its_ties, has_no_other_machine}
use Rattle.bosh_history.specs.Openings.{ties_of}
use Rattle.bosh_history.specs.Goals.{named_instance, rows_of}
use Rattle.bosh_history.specs.Known.{Known, Task, dep_of_task, with_task}
use Rattle.bosh_history.specs.Moments.{Moment, noting}
use Rattle.bosh_history.specs.Notes.{EndsTask}
use Rattle.bosh_history.specs.Sound.{is_empty_goal}
use Rattle.bosh_history.specs.Tasks.{settles}
use Rattle.bosh_history.specs.Words.{at, holds}
use Rattle.bosh_rows.specs.Same.{same_tie}
use Rattle.laws_exact.proofs.ExactLemmas.{clean_exact, one_exact, over_exact}
use Rattle.laws_exact.proofs.OverLemmas.{one_over_some, over_some}
use Rattle.laws_exact.proofs.TaskLemmas.{HasGoal, deletes_none, goal_in}
use Rattle.bosh_history.specs.Known.{dep_named}
use Rattle.bosh_history.specs.Exact.{is_exact, is_exact_deploy, is_exact_kind, is_exact_row}
use Rattle.bosh_history.specs.Exact.{is_made_in}
use Rattle.bosh_history.specs.Exact.{leaves_no_disk}
use Rattle.laws_exact.specs.Premises.{IsLeftWell, is_whole}

-- ---- before the end is noted

-- what a task leaves, at the moment at which it may be reported done
module _ (m : Moment) (t : ℕ) (facts : IsLeftWell m) (working : WorksWell m t)
    (may : EndsTask m t) where
  whole_goal : is_whole (m.known.task t).kind ≡ true → HasGoal (m.known.task t)
  whole_goal whole = goal_in (m.known.task t) working.lists_well (deletes_none (m.known.task t).kind whole)

  whole_left : is_whole (m.known.task t).kind ≡ true → is_exact_deploy m t (m.known.task t) ≡ true
  whole_left whole =
      let it : HasGoal (m.known.task t) = whole_goal whole in
      over_exact m t it.dep it.goal facts (over_some m t facts whole working may it)

  abbrev own_instance : TaskKind → Type 0
  own_instance kind = where_any (λ i. are_those_of_one i (m.known.task t)) (named_instance kind) ≡ true

  one_left_by : (i : Inst) (kind : TaskKind) → (m.known.task t).kind ≡ kind → is_clean_up kind ≡ false
      → named_instance kind ≡ Some i → are_of_kind (m.known.task t) kind ≡
      where_any (λ i. are_those_of_one i (m.known.task t)) (named_instance kind)
      → is_exact_kind m t (m.known.task t) kind ≡ is_exact_kind m t (m.known.task t) (kinds.Recreate i)
      → is_exact_kind m t (m.known.task t) kind ≡ true
  one_left_by i kind same keeps named told exact =
      let it : HasGoal (m.known.task t) = goal_in (m.known.task t) working.lists_well (ap is_clean_up same ∙ keeps) in
      exact ∙ one_exact m t i it.goal facts
      (one_over_some m t i facts working may it (ap named_instance same ∙ named)
      ((λ j. where_any (λ i. are_those_of_one i (m.known.task t)) (named_instance (same j))) ∙ sym told
      ∙ (λ j. are_of_kind (m.known.task t) (sym same j)) ∙ it.of_kind))

  left : (kind : TaskKind) → (m.known.task t).kind ≡ kind → is_exact_kind m t (m.known.task t) kind ≡ true
  left kinds.Deploy same = whole_left (ap is_whole same)
  left kinds.Fix same = whole_left (ap is_whole same)
  left kinds.DeleteDeployment same = whole_left (ap is_whole same)
  left (kinds.Recreate i) same = one_left_by i (kinds.Recreate i) same refl refl refl refl
  left (kinds.Start i) same = one_left_by i (kinds.Start i) same refl refl refl refl
  left (kinds.Stop i) same = one_left_by i (kinds.Stop i) same refl refl refl refl
  left (kinds.Resolve i) same = one_left_by i (kinds.Resolve i) same refl refl refl refl
  left kinds.CleanUp same = clean_exact m t working may
  left (kinds.DeleteDisk d) same = clean_exact m t working may

-- ---- the moment after

abbrev ended : Task → Task
ended task = record task { end = Some ends.Finished }

abbrev after_kind : Moment → ℕ → TaskKind → Moment
after_kind m t kind = record m {
  known = with_task t (λ it. record it { end = Some ends.Finished })
      (settles kind (m.known.task t).goal (dep_of_task m.known t) m.known);
}

at_end : (n m : Moment) (t : ℕ) (kind : TaskKind)
    → n.known.task ≡ at eqb t (ended (m.known.task t)) m.known.task → (m.known.task t).kind ≡ kind
    → is_exact_kind n t (ended (m.known.task t)) kind ≡ true → is_exact n t ≡ true
at_end n m t kind tasks same exact =
    (λ j. is_exact_kind n t (tasks j t) (tasks j t).kind)
    ∙ (λ j. is_exact_kind n t (if eq-eqb t t refl j then ended (m.known.task t) else m.known.task t)
    (if eq-eqb t t refl j then ended (m.known.task t) else m.known.task t).kind)
    ∙ (λ j. is_exact_kind n t (ended (m.known.task t)) (same j)) ∙ exact

dep_told : (k : Known) (t : ℕ) (dep : List ℕ) → (k.task t).dep ≡ Some dep → dep_of_task k t ≡ dep
dep_told k t dep is = grind (arith, is)

-- a deployment that was deleted has no links any more, as its goal had none
none_tied : (m : Moment) (t : ℕ) (it : HasGoal (m.known.task t)) → (m.known.task t).kind ≡ kinds.DeleteDeployment
    → has_its_ties (after_kind m t kinds.DeleteDeployment).known (dep_named (m.known.task t).dep) (m.known.task t).goal
    ≡ true
none_tied m t it same =
    (λ j. has_its_ties (after_kind m t kinds.DeleteDeployment).known (dep_named (it.dep_is j)) (it.goal_is j))
    ∙ (λ j. pointwise same_tie (ties_of (if here j then None else m.known.goal it.dep)) it.goal.ties)
    ∙ ap (pointwise same_tie []) no_ties
  where
    here : bytes_eq (dep_of_task m.known t) it.dep ≡ true
    here = (bytes_eq-Decides (dep_of_task m.known t) it.dep).1 (dep_told m.known t it.dep it.dep_is)

    empty : is_empty_goal it.goal ≡ true
    empty =
        (λ j. holds is_empty_goal (sym it.goal_is j)) ∙ (λ j. are_of_kind (m.known.task t) (sym same j)) ∙ it.of_kind

    none : (ties : List Tie) → nat_le (length ties) 0 ≡ true → ties ≡ []
    none [] is = refl
    none (tie ∷ ties) is = absurd (grind (arith, is))

    no_ties : it.goal.ties ≡ []
    no_ties =
        let (rows, a) = and_parts (nat_le (length it.goal.rows) 0) _ empty in
        let (keys, b) = and_parts (nat_le (length it.goal.keys) 0) _ a in
        let (slots, c) = and_parts (nat_le (length it.goal.slots) 0) _ b in
        none it.goal.ties (and_parts (nat_le (length it.goal.ties) 0) _ c).0

deleted : (m : Moment) (t : ℕ) → HasGoal (m.known.task t) → (m.known.task t).kind ≡ kinds.DeleteDeployment
    → is_exact_deploy m t (m.known.task t) ≡ true
    → is_exact_deploy (after_kind m t kinds.DeleteDeployment) t (ended (m.known.task t)) ≡ true
deleted m t it same exact =
    let task : Task = m.known.task t in
    let (machines, a) = and_parts (has_no_other_machine m.effects (dep_named task.dep) task.goal) _ exact in
    let (rows, b) = and_parts (list_all (is_exact_row m t task) (rows_of task.goal)) _ a in
    let (disks, c) = and_parts (leaves_no_disk m (is_made_in (dep_named task.dep)) task.goal) _ b in
    and_from (has_no_other_machine m.effects (dep_named task.dep) task.goal) _ machines
    (and_from (list_all (is_exact_row m t task) (rows_of task.goal)) _ rows
    (and_from (leaves_no_disk m (is_made_in (dep_named task.dep)) task.goal) _ disks (none_tied m t it same)))

after_left : (m : Moment) (t : ℕ) (kind : TaskKind)
    → ((m.known.task t).kind ≡ kinds.DeleteDeployment → HasGoal (m.known.task t)) → (m.known.task t).kind ≡ kind
    → is_exact_kind m t (m.known.task t) kind ≡ true → is_exact (after_kind m t kind) t ≡ true
after_left m t kinds.Deploy goal same exact = at_end (after_kind m t kinds.Deploy) m t kinds.Deploy refl same exact
after_left m t kinds.Fix goal same exact = at_end (after_kind m t kinds.Fix) m t kinds.Fix refl same exact
after_left m t kinds.DeleteDeployment goal same exact =
    at_end (after_kind m t kinds.DeleteDeployment) m t kinds.DeleteDeployment refl same
    (deleted m t (goal same) same exact)
after_left m t (kinds.Recreate i) goal same exact =
    at_end (after_kind m t (kinds.Recreate i)) m t (kinds.Recreate i) refl same exact
after_left m t (kinds.Start i) goal same exact =
    at_end (after_kind m t (kinds.Start i)) m t (kinds.Start i) refl same exact
after_left m t (kinds.Stop i) goal same exact =
    at_end (after_kind m t (kinds.Stop i)) m t (kinds.Stop i) refl same exact
after_left m t (kinds.Resolve i) goal same exact =
    at_end (after_kind m t (kinds.Resolve i)) m t (kinds.Resolve i) refl same exact
after_left m t kinds.CleanUp goal same exact = at_end (after_kind m t kinds.CleanUp) m t kinds.CleanUp refl same exact
after_left m t (kinds.DeleteDisk d) goal same exact =
    at_end (after_kind m t (kinds.DeleteDisk d)) m t (kinds.DeleteDisk d) refl same exact

-- ---- all

-- where a task may be reported done, it is exact once that is noted
pub note_is_exact : (m : Moment) (t : ℕ) → IsLeftWell m → WorksWell m t → EndsTask m t
    → is_exact (noting m (entries.TaskDone t)) t ≡ true
note_is_exact m t facts working end =
    after_left m t (m.known.task t).kind (λ same. whole_goal m t facts working end (ap is_whole same)) refl
    (left m t facts working end (m.known.task t).kind refl)

-- .. by the facts of a moment
left_well : (m : Moment) → Holds m → IsLeftWell m
left_well m h = record {
  own_row = h.known.lists.own_row;
  bare = h.known.lists.bare;
  machine_listed = h.known.lists.machine_listed;
  of_tasks = h.known.numbers.of_tasks;
  rows = h.rows;
  slots_tied = λ t s. (h.slots t s).tied;
  once = λ d. (h.disks d).once;
  sound_rows = λ dep goal is. (h.known.goals dep goal is).sound_rows;
  makers = h.known.makers;
}

works_well : (m : Moment) (t : ℕ) → Holds m → works m t ≡ true → WorksWell m t
works_well m t h working = record {
  current = ((h.known.tasks t).working working).current;
  lists_well = ((h.known.tasks t).working working).lists_well;
  has_place = ((h.known.tasks t).working working).has_place;
  stands = (h.outcomes t working).stands;
  to_delete = (h.outcomes t working).to_delete;
  is_heard_of = (h.outcomes t working).is_heard_of;
}

pub done_is_exact : (m : Moment) (t : ℕ) → Holds m → may_follow m (entries.TaskDone t) ≡ true → EndsTask m t
    → is_exact (noting m (entries.TaskDone t)) t ≡ true
done_is_exact m t h follows may =
    note_is_exact m t (left_well m h) (works_well m t h (done_works m t follows may.is_open)) may
