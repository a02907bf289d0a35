-- Goals of tasks that work: that they are the current ones is kept by each move.
use Rattle.std.proofs.Common.{◌≡◌, ℕ, ◌+◌, Bool, true, false, ◌==◌, Option, Some, None, List, refl, ap, sym, ◌∙◌, inl, inr, arith}
use Rattle.std.specs.Prelude.{eqb, nat_lt, ◌⊎◌, ◌≢◌, is_some, if◌then◌else◌}
use Rattle.std.specs.List.{list_any}
use Rattle.std.specs.Option.{option_eq}
use Rattle.std.specs.Str.{bytes_eq}
use Rattle.std.proofs.lemmas.Bool.Decides.{eqb_tells}
use Rattle.bosh_base.specs.Cloud.{numbers_to}
use Rattle.bosh_base.specs.declared.answer.Answer.{Answer}
use Rattle.bosh_base.specs.declared.call.Call.{Call}
use Rattle.bosh_base.specs.declared.entry.Begin.{Begin}
use Rattle.bosh_base.specs.declared.entry.Entry.{Entry}
use Rattle.bosh_base.specs.declared.entry.Entry.TheVariants as entries
use Rattle.bosh_base.specs.declared.entry.TaskOpen.{TaskOpen}
use Rattle.bosh_base.specs.declared.goal.Goal.{Goal}
use Rattle.bosh_base.specs.declared.moves.Move.{Move}
use Rattle.bosh_base.specs.declared.moves.Move.TheVariants as moves
use Rattle.bosh_base.specs.declared.moves.Stop as stop
use Rattle.bosh_base.specs.declared.owner.Owner.{Owner}
use Rattle.bosh_base.specs.declared.task.TaskKind.{TaskKind}
use Rattle.bosh_base.specs.declared.task.TaskKind.TheVariants as kinds
use Rattle.laws_facts.proofs.FrameLemmas.{goals_begin, goals_end, goals_updated}
use Rattle.laws_facts.proofs.GoalLemmas.{OpensOf, of_dep, of_none, opens_of}
use Rattle.laws_facts.proofs.ListLemmas.{Tells, bytes_tells}
use Rattle.laws_facts.proofs.LockLemmas.{StaysOpen, is_opening, no_other, note_stays}
use Rattle.laws_facts.proofs.WorkLemmas.{IsUpTo, is_up_to, none_to, opens_next}
use Rattle.laws_facts.proofs.DepLemmas.{dep_settled, dep_updated}
use Rattle.laws_facts.specs.KnownFacts.{KnownFacts}
use Rattle.laws_facts.specs.Kept.{AreCurrent}
use Rattle.laws_facts.specs.Owners.{works}
use Rattle.laws_facts.specs.Tasks.{has_another_lock, is_open_task, lists_well}
use Rattle.bosh_history.specs.Calls.{call_ended, task_after_ping, task_told}
use Rattle.bosh_history.specs.Held.{is_open}
use Rattle.bosh_history.specs.Known.{Known, Task, dep_of_task, want_in}
use Rattle.bosh_history.specs.Learn.{learn}
use Rattle.bosh_history.specs.Moments.{Moment, later, noting}
use Rattle.bosh_history.specs.Notes.{MayNote, Outside, is_task_open}
use Rattle.bosh_history.specs.Openings.{MayOpen}
use Rattle.bosh_history.specs.Permitted.{IsPermitted}
use Rattle.bosh_history.specs.Recovered.{may_follow}
use Rattle.bosh_history.specs.Tasks.{goal_set, settles, task_opened}
use Rattle.bosh_history.specs.Words.{at}

-- ---- the goal of a task

pinged_goal : (call : Call) (answer : Answer) (owner : Owner) (t : Task)
    → (task_after_ping call answer owner t).goal ≡ t.goal
pinged_goal call answer owner t = grind (arith)

-- an entry leaves it, unless it opens the task
ended_goal : (answer : Answer) (b : Option Begin) (k : Known) (t : ℕ)
    → ((call_ended answer b k).task t).goal ≡ (k.task t).goal
ended_goal answer (Some b) k t = by (eqb_tells b.task t)
  where
    told : (task_told k b answer (k.task b.task)).goal ≡ (k.task b.task).goal
    told = pinged_goal b.call answer b.owner (k.task b.task)

    by : ((b.task == t) ≡ true) × (b.task ≡ t) ⊎ ((b.task == t) ≡ false) × (b.task ≢ t)
        → (at eqb b.task (task_told k b answer (k.task b.task)) k.task t).goal ≡ (k.task t).goal
    by tells = grind (arith, tells, told)
ended_goal answer None k t = refl

goal_stays : (outside : Outside) (m : Moment) (e : Entry) → MayNote outside m e → is_opening e ≡ false → (t : ℕ)
    → ((learn m.known e).task t).goal ≡ (m.known.task t).goal
goal_stays outside m (entries.Begin b) may none t = grind (arith, eqb_tells b.task t)
goal_stays outside m (entries.End e) may none t = ended_goal e.answer (m.known.begun e.n) m.known t
goal_stays outside m (entries.TaskOpen o) may none t = absurd cc
goal_stays outside m (entries.UpdBegin u) may none t = grind (arith, eqb_tells u.task t)
goal_stays outside m (entries.UpdDone u) may none t =
    grind (arith, eqb_tells u.task t, dep_updated (want_in (m.known.task u.task).goal u.inst) u.inst m.known)
goal_stays outside m (entries.Gone u) may none t = grind (arith, eqb_tells u.task t)
goal_stays outside m (entries.TaskDone task) may none t =
    grind (
      arith,
      eqb_tells task t,
      dep_settled (m.known.task task).kind (m.known.task task).goal (dep_of_task m.known task) m.known,
    )
goal_stays outside m (entries.TaskError e) may none t = grind (arith, eqb_tells e.task t)
goal_stays outside m (entries.Snapshot s) may none t = absurd may
goal_stays outside m entry may none t = refl

-- ---- a task that works now worked before

-- a task that works is open
pub works_open : (m : Moment) (t : ℕ) → works m t ≡ true → is_open_task m.known t ≡ true
works_open m t is = grind (arith, is)

pub worked : (m : Moment) (e : Entry) (t : ℕ) → StaysOpen m.known (learn m.known e) t → works (noting m e) t ≡ true
    → works m t ≡ true
worked m e t stays is = grind (arith, is, stays.was (works_open (noting m e) t is))

-- where the current goals are the same
current_same : (outside : Outside) (m : Moment) → KnownFacts m → (e : Entry) → MayNote outside m e → is_opening e ≡ false
    → (t : ℕ) (dep : List ℕ) → (learn m.known e).goal dep ≡ m.known.goal dep → works (noting m e) t ≡ true
    → ((learn m.known e).task t).dep ≡ Some dep → (learn m.known e).goal dep ≡ ((learn m.known e).task t).goal
current_same outside m h e may none t dep goals is of_it =
    let stays : StaysOpen m.known (learn m.known e) t = note_stays outside m e may none t in
    goals
    ∙ ((h.tasks t).working (worked m e t stays is)).current dep (sym stays.dep ∙ of_it)
    ∙ sym (goal_stays outside m e may none t)

-- ---- a task opens

current_opened : (m : Moment) → KnownFacts m → (o : TaskOpen) → MayOpen m.known o → (t : ℕ) (dep : List ℕ)
    → works (noting m (entries.TaskOpen o)) t ≡ true
    → (at eqb o.task (task_opened m.known o) m.known.task t).dep ≡ Some dep
    → goal_set o.dep o.goal m.known.goal dep ≡ (at eqb o.task (task_opened m.known o) m.known.task t).goal
current_opened m h o may t dep is of_it = by (eqb_tells o.task t) (opens_of m.known o may)
  where
    number : o.task ≡ m.known.tasks + 1
    number = opens_next m.known o may

    by : ((o.task == t) ≡ true) × (o.task ≡ t) ⊎ ((o.task == t) ≡ false) × (o.task ≢ t) → OpensOf o
        → goal_set o.dep o.goal m.known.goal dep ≡ (at eqb o.task (task_opened m.known o) m.known.task t).goal
    by (inl new) (of_dep named goal dep_is goal_is same) =
        grind (arith, new, of_it, dep_is, goal_is, bytes_tells named dep)
    by (inl new) (of_none dep_is goal_is) = absurd (grind (arith, new, of_it, dep_is))
    by (inr old) opens = here opens
      where
        was : works m t ≡ true
        was = grind (arith, is, old, number)

        its : (m.known.task t).dep ≡ Some dep
        its = grind (arith, of_it, old)

        current : m.known.goal dep ≡ (m.known.task t).goal
        current = ((h.tasks t).working was).current dep its

        other : (m.known.task t).dep ≢ o.dep
        other = no_other m.known o t may (works_open m t was)

        here : OpensOf o
            → goal_set o.dep o.goal m.known.goal dep ≡ (at eqb o.task (task_opened m.known o) m.known.task t).goal
        here (of_dep named goal dep_is goal_is same) = apart (bytes_tells named dep)
          where
            apart : Tells bytes_eq named dep
                → goal_set o.dep o.goal m.known.goal dep ≡ (at eqb o.task (task_opened m.known o) m.known.task t).goal
            apart (inl equal) = absurd (other (its ∙ ap Some (sym equal.1) ∙ sym dep_is))
            apart (inr differ) = grind (arith, old, dep_is, differ, current)
        here (of_none dep_is goal_is) = grind (arith, old, dep_is, current)

-- ---- a task is done

-- where a task is done nothing is to be recovered, so it works
pub done_works : (m : Moment) (t : ℕ) → may_follow m (entries.TaskDone t) ≡ true → is_task_open m.known t ≡ true
    → works m t ≡ true
done_works m t follows may = by (nat_lt m.stopped t) refl
  where
    within : IsUpTo t m.known.tasks
    within = is_up_to t m.known.tasks (grind (arith, may))

    open_now : is_open m.known t ≡ true
    open_now = grind (arith, may)

    none : list_any (is_open m.known) (numbers_to m.stopped) ≡ false
    none = grind (arith, follows)

    by : (after : Bool) → nat_lt m.stopped t ≡ after → works m t ≡ true
    by true after = grind (arith, after, within.high, open_now)
    by false before =
        absurd (grind (arith, open_now, none_to (is_open m.known) m.stopped t none within.low (grind (arith, before))))

-- a deletion is of a deployment
deletes_dep : (t : Task) → t.kind ≡ kinds.DeleteDeployment → lists_well t ≡ true → is_some t.dep ≡ true
deletes_dep t kind lists = by t.dep refl
  where
    by : (dep : Option (List ℕ)) → t.dep ≡ dep → is_some t.dep ≡ true
    by (Some dep) is = ap is_some is
    by None is = absurd (grind (arith, kind, lists, is))

-- no other task of the deployment works
done_apart : (m : Moment) → KnownFacts m → (done t : ℕ) → (m.known.task done).kind ≡ kinds.DeleteDeployment
    → works m done ≡ true
    → works m t ≡ true → (done == t) ≡ false → (dep : List ℕ) → (m.known.task t).dep ≡ Some dep
    → bytes_eq (dep_of_task m.known done) dep ≡ false
done_apart m h done t kind is also apart dep of_it = by (m.known.task done).dep refl
    (bytes_tells (dep_of_task m.known done) dep)
  where
    some : is_some (m.known.task done).dep ≡ true
    some = deletes_dep (m.known.task done) kind ((h.tasks done).working is).lists_well

    locks : has_another_lock m.known done t ≡ true
    locks = (h.tasks done).another_lock t

    by : (its : Option (List ℕ)) → (m.known.task done).dep ≡ its → Tells bytes_eq (dep_of_task m.known done) dep
        → bytes_eq (dep_of_task m.known done) dep ≡ false
    by (Some its) same (inl equal) =
        let one : its ≡ dep = grind (arith, same, equal) in
        let both : option_eq bytes_eq (m.known.task done).dep (m.known.task t).dep ≡ true =
        (λ i. option_eq bytes_eq (same i) (of_it i)) ∙ grind (arith, one, bytes_tells its dep) in
        absurd (grind (arith, locks, both, apart, works_open m done is, works_open m t also))
    by (Some its) same (inr differ) = differ.0
    by None same tells = absurd (grind (arith, same, some))

current_done : (outside : Outside) (m : Moment) → KnownFacts m → (done : ℕ) → may_follow m (entries.TaskDone done) ≡ true
    → MayNote outside m (entries.TaskDone done) → (t : ℕ) (dep : List ℕ)
    → works (noting m (entries.TaskDone done)) t ≡ true
    → ((learn m.known (entries.TaskDone done)).task t).dep ≡ Some dep
    → (learn m.known (entries.TaskDone done)).goal dep ≡ m.known.goal dep
current_done outside m h done follows may t dep is of_it = by (m.known.task done).kind refl
  where
    stays : StaysOpen m.known (learn m.known (entries.TaskDone done)) t
    stays = note_stays outside m (entries.TaskDone done) may refl t

    was : works m t ≡ true
    was = worked m (entries.TaskDone done) t stays is

    apart : (done == t) ≡ false
    apart = grind (arith, is, eqb_tells done t)

    by : (kind : TaskKind) → (m.known.task done).kind ≡ kind
        → (settles kind (m.known.task done).goal (dep_of_task m.known done) m.known).goal dep ≡ m.known.goal dep
    by kinds.DeleteDeployment kind =
        let other : bytes_eq (dep_of_task m.known done) dep ≡ false =
        done_apart m h done t kind (done_works m done follows may.is_open) was apart dep (sym stays.dep ∙ of_it) in
        λ i. if other i then None else m.known.goal dep
    by kinds.Deploy kind = refl
    by kinds.Fix kind = refl
    by other kind = refl

-- ---- entries

current_note : (outside : Outside) (m : Moment) → KnownFacts m → (e : Entry) → may_follow m e ≡ true → MayNote outside m e
    → AreCurrent (noting m e)
current_note outside m h (entries.Begin b) follows may t dep is of_it =
    current_same outside m h (entries.Begin b) may refl t dep
    (ap (λ (goals : List ℕ → Option Goal). goals dep) (goals_begin m b).goal) is of_it
current_note outside m h (entries.End e) follows may t dep is of_it =
    current_same outside m h (entries.End e) may refl t dep
    (ap (λ (goals : List ℕ → Option Goal). goals dep) (goals_end m e.n e.answer).goal) is of_it
current_note outside m h (entries.TaskOpen o) follows may t dep is of_it = current_opened m h o may.0 t dep is of_it
current_note outside m h (entries.UpdDone u) follows may t dep is of_it =
    current_same outside m h (entries.UpdDone u) may refl t dep
    (ap (λ (goals : List ℕ → Option Goal). goals dep) (goals_updated m u.task u.inst).goal) is of_it
current_note outside m h (entries.TaskDone done) follows may t dep is of_it =
    current_same outside m h (entries.TaskDone done) may refl t dep
    (current_done outside m h done follows may t dep is of_it) is of_it
current_note outside m h (entries.Snapshot s) follows may t dep is of_it = absurd may
current_note outside m h entry follows may t dep is of_it = current_same outside m h entry may refl t dep refl is of_it

-- after a stop no task works
pub none_works : (m : Moment) (s : stop.Stop) (t : ℕ) → works (later m (moves.Stop s)) t ≡ false
none_works m s t = grind (arith)

current_move : (outside : Outside) (m : Moment) (move : Move) → IsPermitted outside m move → KnownFacts m
    → AreCurrent (later m move)
current_move outside m (moves.Note e) may h t dep is of_it = current_note outside m h e may.1 may.2 t dep is of_it
current_move outside m (moves.Stop s) may h t dep is of_it = absurd (grind (arith, is, none_works m s t))
current_move outside m move may h t dep is of_it = ((h.tasks t).working is).current dep of_it

pub current_kept : (outside : Outside) (m : Moment) (move : Move) → IsPermitted outside m move
    → KnownFacts m → AreCurrent (later m move)
current_kept outside m move may h = current_move outside m move may h
