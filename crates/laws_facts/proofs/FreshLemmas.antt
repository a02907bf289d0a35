-- That no row of one is wanted of a call that is to come, is kept by each move.
use Rattle.std.proofs.Common.{◌≡◌, ℕ, ◌≤◌, Bool, true, false, Option, Some, None, List, [], ◌∷◌, refl, ◌∙◌, inl, inr, arith}
use Rattle.std.specs.Prelude.{nat_le, if◌then◌else◌}
use Rattle.std.specs.List.{list_all}
use Rattle.std.specs.Str.{bytes_eq}
use Rattle.bosh_base.specs.declared.entry.Entry.{Entry}
use Rattle.bosh_base.specs.declared.entry.Entry.TheVariants as entries
use Rattle.bosh_base.specs.declared.goal.Goal.{Goal}
use Rattle.bosh_base.specs.declared.goal.GoalRow.{GoalRow}
use Rattle.bosh_base.specs.declared.moves.Move.{Move}
use Rattle.bosh_base.specs.declared.task.TaskKind.{TaskKind}
use Rattle.bosh_base.specs.declared.task.TaskKind.TheVariants as kinds
use Rattle.laws_facts.proofs.FrameLemmas.{goals_begin, goals_end, goals_updated, numbers_end, numbers_updated}
use Rattle.laws_facts.proofs.ListLemmas.{Tells, bytes_tells}
use Rattle.laws_facts.proofs.MoveLemmas.{by_note}
use Rattle.laws_facts.specs.KnownFacts.{KnownFacts}
use Rattle.laws_facts.specs.Kept.{AreRowsPast}
use Rattle.bosh_history.specs.Goals.{rows_of}
use Rattle.bosh_history.specs.Known.{Known, dep_of_task}
use Rattle.bosh_history.specs.Learn.{learn}
use Rattle.bosh_history.specs.Moments.{Moment, later}
use Rattle.bosh_history.specs.Notes.{MayNote, Outside}
use Rattle.bosh_history.specs.Permitted.{IsPermitted}
use Rattle.bosh_history.specs.Sound.{is_row_of, is_sound_goal}
use Rattle.bosh_history.specs.Tasks.{goal_set, settles}
use Rattle.bosh_history.specs.Words.{at}
use Rattle.laws_facts.proofs.GoalLemmas.{OpensOf, of_dep, of_none, opens_of, sound_of}

-- ---- no row of a goal is wanted of a call that is to come

-- the rows of a goal are wanted of calls up to this one
abbrev pub are_up_to : ℕ → Option Goal → Bool
are_up_to last goal = list_all (λ want. nat_le want.fresh_after last) (rows_of goal)

rows_rise : (old new : ℕ) (rows : List GoalRow) → old ≤ new → list_all (λ want. nat_le want.fresh_after old) rows ≡ true
    → list_all (λ want. nat_le want.fresh_after new) rows ≡ true
rows_rise old new [] more all = refl
rows_rise old new (want ∷ rows) more all = grind (arith, more, all, rows_rise old new rows)

rows_fresh : (k : Known) (goal : Goal) (rows : List GoalRow) → list_all (is_row_of k goal) rows ≡ true
    → list_all (λ want. nat_le want.fresh_after k.last_call) rows ≡ true
rows_fresh k goal [] all = refl
rows_fresh k goal (want ∷ rows) all = grind (arith, all, rows_fresh k goal rows)

goal_fresh : (k : Known) (kind : TaskKind) (goal : Goal) → is_sound_goal k kind goal ≡ true
    → are_up_to k.last_call (Some goal) ≡ true
goal_fresh k kind goal sound =
    let rows : list_all (is_row_of k goal) goal.rows ≡ true = grind (arith, sound) in
    rows_fresh k goal goal.rows rows

fresh_note : (outside : Outside) (m : Moment) (e : Entry) → MayNote outside m e
    → AreRowsPast m.known → AreRowsPast (learn m.known e)
fresh_note outside m (entries.Begin b) may past dep =
    (λ i. are_up_to b.n ((goals_begin m b).goal i dep))
    ∙ rows_rise m.known.last_call b.n (rows_of (m.known.goal dep)) (grind (arith, may.number)) (past dep)
fresh_note outside m (entries.End e) may past dep =
    (λ i. are_up_to ((numbers_end m e.n e.answer).last_call i) ((goals_end m e.n e.answer).goal i dep)) ∙ past dep
fresh_note outside m (entries.TaskOpen o) may past dep = by (opens_of m.known o may.0)
  where
    by : OpensOf o → are_up_to m.known.last_call (goal_set o.dep o.goal m.known.goal dep) ≡ true
    by (of_dep named new dep_is goal_is same) =
        (λ i. are_up_to m.known.last_call (goal_set (dep_is i) (goal_is i) m.known.goal dep))
        ∙ here (bytes_tells named dep)
      where
        fresh : are_up_to m.known.last_call (Some new) ≡ true
        fresh = goal_fresh m.known o.kind new (sound_of m.known o new goal_is may.1)

        here : Tells bytes_eq named dep
            → are_up_to m.known.last_call (at bytes_eq named (Some new) m.known.goal dep) ≡ true
        here (inl equal) = (λ i. are_up_to m.known.last_call (if equal.0 i then Some new else m.known.goal dep)) ∙ fresh
        here (inr apart) = (λ i. are_up_to m.known.last_call (if apart.0 i then Some new else m.known.goal dep))
            ∙ past dep
    by (of_none dep_is goal_is) = (λ i. are_up_to m.known.last_call
        (goal_set (dep_is i) (goal_is i) m.known.goal dep)) ∙ past dep
fresh_note outside m (entries.UpdDone u) may past dep =
    (λ i. are_up_to ((numbers_updated m u.task u.inst).last_call i) ((goals_updated m u.task u.inst).goal i dep))
    ∙ past dep
fresh_note outside m (entries.TaskDone t) may past dep = settled (m.known.task t).kind
  where
    settled : (kind : TaskKind)
        → are_up_to (settles kind (m.known.task t).goal (dep_of_task m.known t) m.known).last_call
        ((settles kind (m.known.task t).goal (dep_of_task m.known t) m.known).goal dep)
        ≡ true
    settled kinds.Deploy = past dep
    settled kinds.Fix = past dep
    settled kinds.DeleteDeployment = gone (bytes_eq (dep_of_task m.known t) dep)
      where
        gone : (b : Bool) → are_up_to m.known.last_call (if b then None else m.known.goal dep) ≡ true
        gone true = refl
        gone false = past dep
    settled kind = past dep
fresh_note outside m (entries.Snapshot s) may past dep = absurd may
fresh_note outside m entry may past dep = past dep

pub fresh_kept : (outside : Outside) (m : Moment) (move : Move) → IsPermitted outside m move
    → KnownFacts m
    → AreRowsPast (later m move).known
fresh_kept outside m move may h =
    by_note outside AreRowsPast m (λ e also. fresh_note outside m e also h.numbers.rows_past) h.numbers.rows_past
    move may
