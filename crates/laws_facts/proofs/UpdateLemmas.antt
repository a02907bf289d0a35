-- Updates that have begun: that those of open calls have is kept by each move.
use Rattle.std.proofs.Common.{◌≡◌, ℕ, ◌+◌, true, false, ◌==◌, Option, Some, None, refl, ap, sym, ◌∙◌, subst, inl, inr, arith}
use Rattle.std.specs.Prelude.{eqb, ◌⊎◌, ◌≢◌, if◌then◌else◌}
use Rattle.std.proofs.lemmas.Bool.Decides.{eqb_tells}
use Rattle.bosh_base.specs.declared.answer.Answer.{Answer}
use Rattle.bosh_base.specs.declared.call.Call.{Call}
use Rattle.bosh_base.specs.declared.entry.End.{End}
use Rattle.bosh_base.specs.declared.entry.Entry.{Entry}
use Rattle.bosh_base.specs.declared.entry.Entry.TheVariants as entries
use Rattle.bosh_base.specs.declared.failure.Failure.{Failure}
use Rattle.bosh_base.specs.declared.inst.Inst.{Inst}
use Rattle.bosh_base.specs.declared.moves.Move.{Move}
use Rattle.bosh_base.specs.declared.moves.Move.TheVariants as moves
use Rattle.bosh_base.specs.declared.owner.Owner.{Owner}
use Rattle.bosh_base.specs.declared.task.TaskEnd.{TaskEnd}
use Rattle.bosh_base.specs.declared.task.TaskEnd.TheVariants as ends
use Rattle.bosh_base.specs.declared.owner.Owner.TheVariants.{Instance, Compile, Disk}
use Rattle.laws_facts.proofs.CallLemmas.{none_open}
use Rattle.laws_facts.proofs.DepLemmas.{dep_settled, dep_updated}
use Rattle.laws_facts.proofs.WorkLemmas.{opens_next}
use Rattle.laws_facts.specs.KnownFacts.{KnownFacts}
use Rattle.laws_facts.specs.Kept.{HaveBegun}
use Rattle.laws_facts.specs.Owners.{works}
use Rattle.bosh_history.specs.Calls.{call_ended, failure_of, least_failure, number_of, task_after_ping, task_told, task_with_call}
use Rattle.bosh_history.specs.Known.{Task, dep_of_task, want_in}
use Rattle.bosh_history.specs.Learn.{learn}
use Rattle.bosh_history.specs.Moments.{Moment, OpenCall, later, noting}
use Rattle.bosh_history.specs.Notes.{EndsCall, MayNote, Outside, has_begun}
use Rattle.bosh_history.specs.Permitted.{IsPermitted}
use Rattle.bosh_history.specs.Steps.{is_idle}
use Rattle.bosh_history.specs.Tasks.{end_by, settles, task_opened}
use Rattle.bosh_history.specs.Updates.{update_at, update_done}
use Rattle.bosh_roll.specs.declared.upd.Upd.TheVariants.{Busy, Finished}
use Rattle.bosh_history.specs.Words.{at}
use Rattle.bosh_rows.proofs.SameLemmas.{same_inst_tells}
use Rattle.bosh_rows.specs.Same.{same_inst}

-- an answer to a call of another owner leaves whether an update has begun
told_begun : (call : Call) (answer : Answer) (other : Owner) (failed : Option Failure) (t : Task) (owner : Owner)
    → other ≢ owner → has_begun t owner ≡ true
    → has_begun (record (task_after_ping call answer other t) { failed = failed }) owner ≡ true
told_begun call answer (Instance j) failed t (Instance i) apart begun =
    grind (arith, same_inst_tells j i, begun, λ (same : j ≡ i). apart (ap Instance same))
told_begun call answer (Compile task slot) failed t (Instance i) apart begun = grind (arith, begun)
told_begun call answer (Disk d) failed t (Instance i) apart begun = grind (arith, begun)
told_begun call answer other failed t (Compile task slot) apart begun = refl
told_begun call answer other failed t (Disk d) apart begun = refl

begun_end : (m : Moment) → KnownFacts m → (e : End) → EndsCall e (m.calls e.n) → (n : ℕ) (call : OpenCall)
    → (e.n == n) ≡ false
    → m.calls n ≡ Some call → has_begun ((learn m.known (entries.End e)).task call.begin.task) call.begin.owner ≡ true
begun_end m h e may n call apart is = by (m.calls e.n) refl may
  where
    after_call : (that : OpenCall) → m.calls e.n ≡ Some that
        → has_begun ((call_ended e.answer (Some that.begin) m.known).task call.begin.task) call.begin.owner ≡ true
    after_call that that_is = here (eqb_tells that.begin.task call.begin.task)
      where
        other : that.begin.owner ≢ call.begin.owner
        other same = absurd (grind (arith, (h.calls n call is).one_call e.n that that_is same, eqb_tells e.n n, apart))

        told : has_begun (task_told m.known that.begin e.answer (m.known.task call.begin.task)) call.begin.owner ≡ true
        told = told_begun that.begin.call e.answer that.begin.owner
            (least_failure (m.known.task call.begin.task).failed (failure_of m.known that.begin e.answer))
            (m.known.task call.begin.task) call.begin.owner other (h.calls n call is).has_begun

        here : ((that.begin.task == call.begin.task) ≡ true) × (that.begin.task ≡ call.begin.task)
            ⊎ ((that.begin.task == call.begin.task) ≡ false) × (that.begin.task ≢ call.begin.task)
            → has_begun
            (at eqb that.begin.task
            (task_told m.known that.begin e.answer (m.known.task that.begin.task)) m.known.task
            call.begin.task) call.begin.owner ≡ true
        here (inl same) =
            (λ i. has_begun
            (if same.0 i then task_told m.known that.begin e.answer
            (m.known.task (same.1 i)) else m.known.task call.begin.task) call.begin.owner)
            ∙ told
        here (inr differ) =
            (λ i. has_begun
            (if differ.0 i then task_told m.known that.begin e.answer
            (m.known.task that.begin.task) else m.known.task call.begin.task) call.begin.owner)
            ∙ (h.calls n call is).has_begun

    by : (that : Option OpenCall) → m.calls e.n ≡ that → EndsCall e that
        → has_begun ((learn m.known (entries.End e)).task call.begin.task) call.begin.owner ≡ true
    by (Some that) that_is ends =
        (λ i. has_begun
        ((call_ended e.answer ((h.calls e.n that that_is).begun i) m.known).task call.begin.task) call.begin.owner)
        ∙ after_call that that_is
    by None that_is ends = absurd ends

-- a mark on an instance without an open call
marked : (m : Moment) → KnownFacts m → (i : Inst) → is_idle m (Instance i) ≡ true → (t : ℕ) (change : Task → Task)
    → ((task : Task) (owner : Owner) → owner ≢ Instance i → has_begun task owner ≡ true
    → has_begun (change task) owner ≡ true)
    → (n : ℕ) (call : OpenCall) → m.calls n ≡ Some call
    → has_begun (at eqb t (change (m.known.task t)) m.known.task call.begin.task) call.begin.owner ≡ true
marked m h i idle t change leaves n call is = by (eqb_tells t call.begin.task)
  where
    other : call.begin.owner ≢ Instance i
    other same = none_open m (Instance i) h.numbers.past idle n call is same

    by : ((t == call.begin.task) ≡ true) × (t ≡ call.begin.task)
        ⊎ ((t == call.begin.task) ≡ false) × (t ≢ call.begin.task)
        → has_begun (at eqb t (change (m.known.task t)) m.known.task call.begin.task) call.begin.owner ≡ true
    by (inl same) =
        (λ j. has_begun
        (if same.0 j then change (m.known.task (same.1 j)) else m.known.task call.begin.task) call.begin.owner)
        ∙ leaves (m.known.task call.begin.task) call.begin.owner other (h.calls n call is).has_begun
    by (inr apart) =
        (λ j. has_begun (if apart.0 j then change (m.known.task t) else m.known.task call.begin.task) call.begin.owner)
        ∙ (h.calls n call is).has_begun

finished : (i : Inst) (task : Task) (owner : Owner) → owner ≢ Instance i → has_begun task owner ≡ true
    → has_begun (update_at Finished i task) owner ≡ true
finished i task (Instance j) apart begun =
    grind (arith, same_inst_tells i j, begun, λ (same : i ≡ j). apart (ap Instance (sym same)))
finished i task (Compile t s) apart begun = refl
finished i task (Disk d) apart begun = refl

gone : (i : Inst) (task : Task) (owner : Owner) → owner ≢ Instance i → has_begun task owner ≡ true
    → has_begun (record task { gone = at same_inst i true task.gone }) owner ≡ true
gone i task (Instance j) apart begun =
    grind (arith, same_inst_tells i j, begun, λ (same : i ≡ j). apart (ap Instance (sym same)))
gone i task (Compile t s) apart begun = refl
gone i task (Disk d) apart begun = refl

busy : (i : Inst) (task : Task) (owner : Owner) → has_begun task owner ≡ true
    → has_begun (update_at Busy i task) owner ≡ true
busy i task (Instance j) begun = grind (arith, same_inst_tells i j, begun)
busy i task (Compile t s) begun = refl
busy i task (Disk d) begun = refl

-- a task that ends
abbrev pub ended_by : Option TaskEnd → Task → Task
ended_by end t = record t { end = end }

ended : (m : Moment) → KnownFacts m → (t : ℕ) (end : Option TaskEnd) (n : ℕ) (call : OpenCall) → m.calls n ≡ Some call
    → has_begun (at eqb t (ended_by end (m.known.task t)) m.known.task call.begin.task) call.begin.owner ≡ true
ended m h t end n call is = by (eqb_tells t call.begin.task)
  where
    alike : (task : Task) (owner : Owner) → has_begun (ended_by end task) owner ≡ has_begun task owner
    alike task (Instance i) = refl
    alike task (Compile other slot) = refl
    alike task (Disk d) = refl

    by : ((t == call.begin.task) ≡ true) × (t ≡ call.begin.task)
        ⊎ ((t == call.begin.task) ≡ false) × (t ≢ call.begin.task)
        → has_begun (at eqb t (ended_by end (m.known.task t)) m.known.task call.begin.task) call.begin.owner ≡ true
    by (inl same) =
        (λ j. has_begun
        (if same.0 j then ended_by end (m.known.task (same.1 j)) else m.known.task call.begin.task)
        call.begin.owner)
        ∙ alike (m.known.task call.begin.task) call.begin.owner ∙ (h.calls n call is).has_begun
    by (inr apart) =
        (λ j. has_begun
        (if apart.0 j then ended_by end (m.known.task t) else m.known.task call.begin.task) call.begin.owner)
        ∙ (h.calls n call is).has_begun

-- ---- entries

begun_note : (outside : Outside) (m : Moment) → KnownFacts m → (e : Entry) → MayNote outside m e → HaveBegun (noting m e)
begun_note outside m h (entries.Begin b) may n call is = by (eqb_tells b.n n)
  where
    same : (t : ℕ) (owner : Owner)
        → has_begun (at eqb b.task (task_with_call (m.known.task b.task)) m.known.task t) owner ≡ has_begun
        (m.known.task t) owner
    same t owner = here (eqb_tells b.task t) owner
      where
        here : ((b.task == t) ≡ true) × (b.task ≡ t) ⊎ ((b.task == t) ≡ false) × (b.task ≢ t) → (owner : Owner)
            → has_begun (at eqb b.task (task_with_call (m.known.task b.task)) m.known.task t) owner ≡ has_begun
            (m.known.task t) owner
        here tells (Instance i) = grind (arith, tells)
        here tells (Compile task slot) = refl
        here tells (Disk d) = refl

    by : ((b.n == n) ≡ true) × (b.n ≡ n) ⊎ ((b.n == n) ≡ false) × (b.n ≢ n)
        → has_begun ((learn m.known (entries.Begin b)).task call.begin.task) call.begin.owner ≡ true
    by (inl equal) =
        let new : b ≡ call.begin = grind (arith, equal, is) in
        same call.begin.task call.begin.owner
        ∙ subst (λ it. has_begun (m.known.task it.task) it.owner ≡ true) new may.has_begun
    by (inr apart) =
        same call.begin.task call.begin.owner ∙ (h.calls n call (grind (arith, apart, is))).has_begun
begun_note outside m h (entries.End e) may n call is = by (eqb_tells e.n n)
  where
    by : ((e.n == n) ≡ true) × (e.n ≡ n) ⊎ ((e.n == n) ≡ false) × (e.n ≢ n)
        → has_begun ((learn m.known (entries.End e)).task call.begin.task) call.begin.owner ≡ true
    by (inl equal) = absurd (grind (arith, equal, is))
    by (inr apart) = begun_end m h e may n call apart.0 (grind (arith, apart, is))
begun_note outside m h (entries.TaskOpen o) may n call is =
    let there : works m call.begin.task ≡ true = (h.calls n call is).works in
    let number : o.task ≡ m.known.tasks + 1 = opens_next m.known o may.0 in
    let apart : (o.task == call.begin.task) ≡ false = grind (arith, there, number, eqb_tells o.task call.begin.task) in
    (λ i. has_begun (if apart i then task_opened m.known o else m.known.task call.begin.task) call.begin.owner)
    ∙ (h.calls n call is).has_begun
begun_note outside m h (entries.UpdBegin u) may n call is = by (eqb_tells u.task call.begin.task)
  where
    by : ((u.task == call.begin.task) ≡ true) × (u.task ≡ call.begin.task)
        ⊎ ((u.task == call.begin.task) ≡ false) × (u.task ≢ call.begin.task)
        → has_begun
        (at eqb u.task (update_at Busy u.inst (m.known.task u.task)) m.known.task call.begin.task)
        call.begin.owner ≡ true
    by (inl equal) =
        (λ j. has_begun
        (if equal.0 j then update_at Busy u.inst (m.known.task (equal.1 j)) else m.known.task call.begin.task)
        call.begin.owner)
        ∙ busy u.inst (m.known.task call.begin.task) call.begin.owner (h.calls n call is).has_begun
    by (inr apart) =
        (λ j. has_begun
        (if apart.0 j then update_at Busy u.inst (m.known.task u.task) else m.known.task call.begin.task)
        call.begin.owner)
        ∙ (h.calls n call is).has_begun
begun_note outside m h (entries.UpdDone u) may n call is =
    (λ j. has_begun
    (at eqb u.task (update_at Finished u.inst (same j u.task)) (same j) call.begin.task) call.begin.owner)
    ∙ marked m h u.inst may.is_idle u.task (update_at Finished u.inst) (finished u.inst) n call is
  where
    same : (update_done (want_in (m.known.task u.task).goal u.inst) u.inst m.known).task ≡ m.known.task
    same = dep_updated (want_in (m.known.task u.task).goal u.inst) u.inst m.known
begun_note outside m h (entries.Gone u) may n call is =
    marked m h u.inst may.is_idle u.task (λ t. record t { gone = at same_inst u.inst true t.gone })
    (gone u.inst) n call is
begun_note outside m h (entries.TaskDone t) may n call is =
    (λ j. has_begun (at eqb t (ended_by (Some ends.Finished) (same j t)) (same j) call.begin.task) call.begin.owner)
    ∙ ended m h t (Some ends.Finished) n call is
  where
    same : (settles (m.known.task t).kind (m.known.task t).goal (dep_of_task m.known t) m.known).task ≡ m.known.task
    same = dep_settled (m.known.task t).kind (m.known.task t).goal (dep_of_task m.known t) m.known
begun_note outside m h (entries.TaskError e) may n call is =
    ended m h e.task (Some (end_by e.cause (m.known.begun (number_of e.cause)))) n call is
begun_note outside m h (entries.Snapshot s) may n call is = absurd may
begun_note outside m h entry may n call is = (h.calls n call is).has_begun

begun_move : (outside : Outside) (m : Moment) (move : Move) → IsPermitted outside m move → KnownFacts m
    → HaveBegun (later m move)
begun_move outside m (moves.Note e) may h n call is = begun_note outside m h e may.2 n call is
begun_move outside m (moves.Did d) may h n call is = by (eqb_tells d.n n)
  where
    by : ((d.n == n) ≡ true) × (d.n ≡ n) ⊎ ((d.n == n) ≡ false) × (d.n ≢ n)
        → has_begun (m.known.task call.begin.task) call.begin.owner ≡ true
    by (inl equal) = here (m.calls n) refl
      where
        here : (it : Option OpenCall) → m.calls n ≡ it
            → has_begun (m.known.task call.begin.task) call.begin.owner ≡ true
        here (Some it) was =
            let same : it.begin ≡ call.begin = grind (arith, equal, is, was) in
            subst (λ b. has_begun (m.known.task b.task) b.owner ≡ true) same (h.calls n it was).has_begun
        here None was = absurd (grind (arith, equal, is, was))
    by (inr apart) = (h.calls n call (grind (arith, apart, is))).has_begun
begun_move outside m (moves.Stop s) may h n call is = absurd cc
begun_move outside m move may h n call is = (h.calls n call is).has_begun

pub begun_kept : (outside : Outside) (m : Moment) (move : Move) → IsPermitted outside m move
    → KnownFacts m → HaveBegun (later m move)
begun_kept outside m move may h = begun_move outside m move may h
