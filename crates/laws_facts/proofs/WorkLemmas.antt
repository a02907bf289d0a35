-- Tasks that work: that the task of an open call works is kept by each move.
use Rattle.std.proofs.Common.{◌≡◌, ℕ, ◌+◌, ◌≤◌, Bool, true, false, ◌==◌, Option, Some, None, List, [], ◌∷◌, refl, ◌∙◌, inl, inr, arith}
use Prim.Native.Nat.{zero, suc}
use Rattle.std.specs.Prelude.{eqb, not, nat_lt, ◌⊎◌, ◌≢◌, ◌||◌}
use Rattle.std.specs.List.{list_any}
use Rattle.std.proofs.lemmas.Bool.Decides.{eqb_tells}
use Rattle.std.proofs.lemmas.List.Folds.{list_any-append}
use Rattle.bosh_base.specs.Cloud.{numbers_to}
use Rattle.bosh_base.specs.declared.answer.Answer.{Answer}
use Rattle.bosh_base.specs.declared.call.Call.{Call}
use Rattle.bosh_base.specs.declared.goal.Goal.{Goal}
use Rattle.bosh_base.specs.declared.goal.GoalRow.{GoalRow}
use Rattle.bosh_base.specs.declared.owner.Owner.{Owner}
use Rattle.bosh_base.specs.declared.task.TaskKind.{TaskKind}
use Rattle.bosh_history.specs.Calls.{call_ended, task_after_ping, task_told}
use Rattle.bosh_history.specs.Tasks.{settles}
use Rattle.bosh_history.specs.Updates.{update_done}
use Rattle.bosh_history.specs.Words.{at}
use Rattle.bosh_base.specs.declared.entry.Begin.{Begin}
use Rattle.bosh_base.specs.declared.entry.Entry.{Entry}
use Rattle.bosh_base.specs.declared.entry.TaskOpen.{TaskOpen}
use Rattle.bosh_base.specs.declared.task.TaskKind.TheVariants as kinds
use Rattle.bosh_history.specs.Openings.{MayOpen, OpensBy, OpensDisks, OpensFor}
use Rattle.bosh_base.specs.declared.entry.Entry.TheVariants as entries
use Rattle.bosh_base.specs.declared.inst.Inst.{Inst}
use Rattle.bosh_base.specs.declared.moves.Move.{Move}
use Rattle.bosh_base.specs.declared.moves.Move.TheVariants as moves
use Rattle.laws_facts.proofs.FrameLemmas.{numbers_done, numbers_end, numbers_updated}
use Rattle.laws_facts.proofs.MoveLemmas.{all_to}
use Rattle.laws_facts.specs.KnownFacts.{KnownFacts}
use Rattle.laws_facts.specs.Kept.{AreNumbersPast, AreOfWork}
use Rattle.laws_facts.specs.Owners.{works}
use Rattle.bosh_history.specs.Held.{is_open}
use Rattle.bosh_history.specs.Known.{Known, Task, dep_of_task, want_in}
use Rattle.bosh_history.specs.Learn.{learn}
use Rattle.bosh_history.specs.Moments.{Moment, OpenCall, later, noting}
use Rattle.bosh_history.specs.Notes.{Begins, MayNote, Outside}
use Rattle.bosh_history.specs.Permitted.{IsPermitted}
use Rattle.bosh_history.specs.Recovered.{may_follow}
use Rattle.bosh_history.specs.Steps.{has_no_call}
use Rattle.bosh_history.specs.Words.{holds}

-- ---- numbers up to the last

-- a test that holds of none holds not of each
pub none_to : (p : ℕ → Bool) (last n : ℕ) → list_any p (numbers_to last) ≡ false → 1 ≤ n → n ≤ last → p n ≡ false
none_to p zero n none low high = absurd (omega arith)
none_to p (suc last) n none low high =
    grind (arith, list_any-append p (numbers_to last) (suc last ∷ []), none_to p last n, eqb_tells n (suc last))

pub record IsUpTo (t last : ℕ) : Type 0 where
  pub low : 1 ≤ t
  pub high : t ≤ last

-- a number that is among them is one of them
pub is_up_to : (t last : ℕ) → list_any (λ n. n == t) (numbers_to last) ≡ true → IsUpTo t last
is_up_to t zero is = absurd cc
is_up_to t (suc last) is = by (list_any (λ n. n == t) (numbers_to last)) refl (is_up_to t last)
  where
    whole : list_any (λ n. n == t) (numbers_to (suc last)) ≡
        (list_any (λ n. n == t) (numbers_to last) || (suc last == t))
    whole = list_any-append (λ n. n == t) (numbers_to last) (suc last ∷ []) ∙ grind (arith)

    by : (b : Bool) → list_any (λ n. n == t) (numbers_to last) ≡ b
        → (list_any (λ n. n == t) (numbers_to last) ≡ true → IsUpTo t last) → IsUpTo t (suc last)
    by true also before = record { low = (before also).low; high = grind (arith, (before also).high) }
    by false also before = record {
      low = grind (arith, whole, is, also, eqb_tells (suc last) t);
      high = grind (arith, whole, is, also, eqb_tells (suc last) t);
    }

-- ---- ends of tasks

-- an entry leaves the end of a task, unless it opens or ends that task
pub end_begin : (m : Moment) (b : Begin) (t : ℕ) → ((learn m.known (entries.Begin b)).task t).end ≡ (m.known.task t).end
end_begin m b t = grind (arith, eqb_tells b.task t)

pinged_end : (call : Call) (answer : Answer) (owner : Owner) (t : Task)
    → (task_after_ping call answer owner t).end ≡ t.end
pinged_end call answer owner t = grind (arith)

pub ended_end : (answer : Answer) (b : Option Begin) (k : Known) (t : ℕ)
    → ((call_ended answer b k).task t).end ≡ (k.task t).end
ended_end answer (Some b) k t = by (eqb_tells b.task t)
  where
    told : (task_told k b answer (k.task b.task)).end ≡ (k.task b.task).end
    told = pinged_end b.call answer b.owner (k.task b.task)

    by : ((b.task == t) ≡ true) × (b.task ≡ t) ⊎ ((b.task == t) ≡ false) × (b.task ≢ t)
        → (at eqb b.task (task_told k b answer (k.task b.task)) k.task t).end ≡ (k.task t).end
    by tells = grind (arith, tells, told)
ended_end answer None k t = refl

end_updated : (want : Option GoalRow) (i : Inst) (k : Known) → (update_done want i k).task ≡ k.task
end_updated (Some want) i k = refl
end_updated None i k = refl

end_settled : (kind : TaskKind) (goal : Option Goal) (dep : List ℕ) (k : Known)
    → (settles kind goal dep k).task ≡ k.task
end_settled kind goal dep k = grind (arith)

-- the next task has the next number
next_for : (k : Known) (o : TaskOpen) (goal : Option Goal) → OpensFor k o goal → o.task ≡ k.tasks + 1
next_for k o (Some goal) may = may.number
next_for k o None may = absurd may

next_on : (k : Known) (o : TaskOpen) (goal : Option Goal) → OpensDisks k o goal → o.task ≡ k.tasks + 1
next_on k o (Some goal) may = absurd may
next_on k o None may = may.number

next_by : (k : Known) (o : TaskOpen) (kind : TaskKind) → OpensBy k o kind → o.task ≡ k.tasks + 1
next_by k o kinds.CleanUp may = next_on k o o.goal may.0
next_by k o (kinds.DeleteDisk d) may = next_on k o o.goal may.0
next_by k o kind may = next_for k o o.goal may

pub opens_next : (k : Known) (o : TaskOpen) → MayOpen k o → o.task ≡ k.tasks + 1
opens_next k o may = next_by k o o.kind may

works_as : (old new : Moment) (t : ℕ) → new.stopped ≡ old.stopped → old.known.tasks ≤ new.known.tasks
    → (new.known.task t).end ≡ (old.known.task t).end → works old t ≡ true → works new t ≡ true
works_as old new t stopped tasks end is = grind (arith, stopped, tasks, end, is)

-- ---- the task of an open call works

-- where a call may begin nothing is to be recovered, so its task was opened after the last stop
pub begun_works : (m : Moment) (b : Begin) → may_follow m (entries.Begin b) ≡ true → Begins m b → works m b.task ≡ true
begun_works m b follows may = by (nat_lt m.stopped b.task) refl
  where
    is : list_any (λ n. n == b.task) (numbers_to m.known.tasks) ≡ true
    is = grind (arith, may.is_open)

    open_now : is_open m.known b.task ≡ true
    open_now = grind (arith, may.is_open)

    within : IsUpTo b.task m.known.tasks
    within = is_up_to b.task m.known.tasks is

    none : list_any (is_open m.known) (numbers_to m.stopped) ≡ false
    none = grind (arith, follows)

    by : (after : Bool) → nat_lt m.stopped b.task ≡ after → works m b.task ≡ true
    by true after = grind (arith, after, within.high, open_now)
    by false before =
        absurd (grind
        (arith, open_now, none_to (is_open m.known) m.stopped b.task none within.low (grind (arith, before))))

-- a task that may end has no open call
none_of_task : (m : Moment) (t : ℕ) → AreNumbersPast m → has_no_call m t ≡ true → (n : ℕ) (call : OpenCall)
    → m.calls n ≡ Some call → (call.begin.task == t) ≡ false
none_of_task m t past none n call is =
    let free : not (holds (λ it. it.begin.task == t) (m.calls n)) ≡ true =
    all_to (λ n. not (holds (λ it. it.begin.task == t) (m.calls n))) m.known.last_call n none
    (grind (arith, past n, is)) (grind (arith, past n, is)) in
    grind (arith, free, is)

ends_other : (m : Moment) (t other : ℕ) (change : Task → Task) → (t == other) ≡ false
    → (at eqb t (change (m.known.task t)) m.known.task other).end ≡ (m.known.task other).end
ends_other m t other change apart = grind (arith, apart)

-- an entry ends no task of an open call, and opens none that was there
work_note : (outside : Outside) (m : Moment) (e : Entry) → may_follow m e ≡ true → MayNote outside m e
    → AreNumbersPast m
    → AreOfWork m → AreOfWork (noting m e)
work_note outside m (entries.Begin b) follows may past has n call is = by (eqb_tells b.n n)
  where
    by : ((b.n == n) ≡ true) × (b.n ≡ n) ⊎ ((b.n == n) ≡ false) × (b.n ≢ n)
        → works (noting m (entries.Begin b)) call.begin.task ≡ true
    by (inl same) =
        works_as m (noting m (entries.Begin b)) call.begin.task refl (grind (arith)) (end_begin m b call.begin.task)
        (grind (arith, same, is, begun_works m b follows may))
    by (inr other) =
        works_as m (noting m (entries.Begin b)) call.begin.task refl (grind (arith)) (end_begin m b call.begin.task)
        (has n call (grind (arith, other, is)))
work_note outside m (entries.End e) follows may past has n call is =
    works_as m (noting m (entries.End e)) call.begin.task refl (grind (arith, (numbers_end m e.n e.answer).tasks))
    (ended_end e.answer (m.known.begun e.n) m.known call.begin.task)
    (has n call (grind (arith, eqb_tells e.n n, is)))
work_note outside m (entries.TaskOpen o) follows may past has n call is =
    let there : works m call.begin.task ≡ true = has n call is in
    let number : o.task ≡ m.known.tasks + 1 = opens_next m.known o may.0 in
    works_as m (noting m (entries.TaskOpen o)) call.begin.task refl (grind (arith, number))
    (grind (arith, there, number, eqb_tells o.task call.begin.task)) there
work_note outside m (entries.UpdBegin u) follows may past has n call is =
    works_as m (noting m (entries.UpdBegin u)) call.begin.task refl (grind (arith))
    (grind (arith, eqb_tells u.task call.begin.task)) (has n call is)
work_note outside m (entries.UpdDone u) follows may past has n call is =
    works_as m (noting m (entries.UpdDone u)) call.begin.task refl
    (grind (arith, (numbers_updated m u.task u.inst).tasks))
    (grind (
      arith,
      eqb_tells u.task call.begin.task,
      end_updated
          (want_in (m.known.task u.task).goal u.inst) u.inst m.known,
    ))
    (has n call is)
work_note outside m (entries.Gone u) follows may past has n call is =
    works_as m (noting m (entries.Gone u)) call.begin.task refl (grind (arith))
    (grind (arith, eqb_tells u.task call.begin.task)) (has n call is)
work_note outside m (entries.TaskDone t) follows may past has n call is =
    works_as m (noting m (entries.TaskDone t)) call.begin.task refl (grind (arith, (numbers_done m t).tasks))
    (grind (
      arith,
      none_of_task m t past may.no_call n call is,
      eqb_tells t call.begin.task,
      end_settled (m.known.task t).kind (m.known.task t).goal (dep_of_task m.known t) m.known,
    ))
    (has n call is)
work_note outside m (entries.TaskError e) follows may past has n call is =
    works_as m (noting m (entries.TaskError e)) call.begin.task refl (grind (arith))
    (grind (arith, none_of_task m e.task past may.no_call n call is, eqb_tells e.task call.begin.task)) (has n call is)
work_note outside m (entries.Snapshot s) follows may past has n call is = absurd may
work_note outside m entry follows may past has n call is = has n call is

work_move : (outside : Outside) (m : Moment) (move : Move) → IsPermitted outside m move → AreNumbersPast m → AreOfWork m
    → AreOfWork (later m move)
work_move outside m (moves.Note e) may past has n call is = work_note outside m e may.1 may.2 past has n call is
work_move outside m (moves.Did d) may past has n call is =
    grind (arith, eqb_tells d.n n, has n)
work_move outside m (moves.Stop s) may past has n call is = absurd cc
work_move outside m move may past has n call is = has n call is

pub work_kept : (outside : Outside) (m : Moment) (move : Move) → IsPermitted outside m move
    → KnownFacts m → AreOfWork
    (later m move)
work_kept outside m move may h = work_move outside m move may h.numbers.past
    (λ n call is. (h.calls n call is).works)
