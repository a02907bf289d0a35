-- What an entry leaves: of tasks, that no call of them failed and which machines were asked; and of open calls, that
-- they were answered cleanly.
use Rattle.std.proofs.Common.{◌≡◌, ◌∙◌, ℕ, Bool, true, false, Option, Some, None, List}
use Rattle.std.proofs.Common.{refl, subst, sym}
use Rattle.std.specs.Prelude.{◌&&◌, ◌==◌, eqb, if◌then◌else◌, is_some, not}
use Rattle.std.proofs.lemmas.Bool.{and_parts, eq-eqb, false≢true}
use Rattle.bosh_base.specs.CallStep.{found_vm, is_gone}
use Rattle.bosh_base.specs.Cloud.{is_silent}
use Rattle.bosh_base.specs.declared.answer.Answer.{Answer}
use Rattle.bosh_base.specs.declared.answer.Answer.TheVariants as answers
use Rattle.bosh_base.specs.declared.call.Call.{Call}
use Rattle.bosh_base.specs.declared.call.Call.TheVariants as calls
use Rattle.bosh_base.specs.declared.entry.Begin.{Begin}
use Rattle.bosh_base.specs.declared.entry.Entry.{Entry}
use Rattle.bosh_base.specs.declared.entry.Entry.TheVariants as entries
use Rattle.bosh_base.specs.declared.failure.Failure.{Failure}
use Rattle.bosh_base.specs.declared.failure.Failure.TheVariants as failures
use Rattle.bosh_base.specs.declared.inst.Inst.{Inst}
use Rattle.bosh_base.specs.declared.moves.Did.{Did}
use Rattle.bosh_base.specs.declared.owner.Owner.{Owner}
use Rattle.bosh_base.specs.declared.owner.Owner.TheVariants.{Compile, Disk, Instance}
use Rattle.bosh_base.specs.declared.task.TaskEnd.TheVariants as ends
use Rattle.bosh_history.specs.Calls.{failure_of, fails_gone, is_lost, least_failure, number_of, task_with_call}
use Rattle.bosh_history.specs.Known.{Known, Task, dep_of_task, want_in}
use Rattle.bosh_history.specs.Learn.{learn}
use Rattle.bosh_history.specs.Moments.{Moment, OpenCall, noting}
use Rattle.bosh_history.specs.Notes.{MayNote, Outside}
use Rattle.bosh_history.specs.Tasks.{end_by}
use Rattle.bosh_history.specs.Updates.{update_at}
use Rattle.bosh_history.specs.Words.{at, holds}
use Rattle.bosh_lawful.specs.Clean.{is_failed}
use Rattle.bosh_roll.specs.declared.upd.Upd.TheVariants.{Busy, Finished}
use Rattle.bosh_rows.specs.After.{after}
use Rattle.bosh_rows.specs.Same.{same_inst}
use Rattle.laws_disks_kept.proofs.AnswerNotes.{begun_apart}
use Rattle.laws_effects.specs.Orderly.{is_taken}
use Rattle.laws_facts.proofs.CallLemmas.{none_open}
use Rattle.laws_facts.proofs.DepLemmas.{dep_settled, dep_updated}
use Rattle.laws_facts.proofs.LockLemmas.{is_opening}
use Rattle.laws_facts.specs.Clean.{is_answer_clean, is_call_clean, is_unspoiled, leaves_unspoiled, may_be_gone}
use Rattle.laws_facts.specs.Facts.{Holds}
use Rattle.laws_heard.proofs.AnswerLemmas.{implied}
use Rattle.laws_heard.proofs.NoteLemmas.{implied_by}
use Rattle.laws_items.proofs.ItemLemmas.{LeavesOpen, spares}
use Rattle.laws_items.proofs.MarkLemmas.{Spares}
use Rattle.laws_items.proofs.RowFrames.{row_note}
use Rattle.laws_row_facts.specs.Words.{implies, where_any}
use Rattle.laws_rows.proofs.FoundLemmas.{IsFoundVm, unnumbered, vm-among, vm-found}
use Rattle.laws_tasks.proofs.TaskFrames.{changed_at}

-- ---- tasks

-- the same call of it failed, and the same machines answered
pub record SameSoFar (a b : Task) : Type 0 where
  pub failed : b.failed ≡ a.failed
  pub pinged : b.pinged ≡ a.pinged

itself : (a : Task) → SameSoFar a a
itself a = record { failed = refl; pinged = refl }

abbrev pub is_ending : Entry → Bool
is_ending (entries.End e) = true
is_ending entry = false

pub so_far_note : (outside : Outside) (m : Moment) (e : Entry) (t : ℕ) → MayNote outside m e → is_opening e ≡ false
    → is_ending e ≡ false → SameSoFar (m.known.task t) ((learn m.known e).task t)
so_far_note outside m (entries.TaskOpen o) t may none other = absurd (false≢true (sym none))
so_far_note outside m (entries.End e) t may none other = absurd (false≢true (sym other))
so_far_note outside m (entries.Begin b) t may none other =
    changed_at SameSoFar itself b.task t (task_with_call (m.known.task b.task)) m.known.task
    (record { failed = refl; pinged = refl })
so_far_note outside m (entries.UpdBegin u) t may none other =
    changed_at SameSoFar itself u.task t (update_at Busy u.inst (m.known.task u.task)) m.known.task
    (record { failed = refl; pinged = refl })
so_far_note outside m (entries.UpdDone u) t may none other =
    subst (λ (f : ℕ → Task). SameSoFar (m.known.task t) (at eqb u.task (update_at Finished u.inst (f u.task)) f t))
    (sym (dep_updated (want_in (m.known.task u.task).goal u.inst) u.inst m.known))
    (changed_at SameSoFar itself u.task t (update_at Finished u.inst (m.known.task u.task)) m.known.task
    (record { failed = refl; pinged = refl }))
so_far_note outside m (entries.Gone u) t may none other =
    changed_at SameSoFar itself u.task t
    (record (m.known.task u.task) { gone = at same_inst u.inst true (m.known.task u.task).gone }) m.known.task
    (record { failed = refl; pinged = refl })
so_far_note outside m (entries.TaskDone n) t may none other =
    subst (λ (f : ℕ → Task). SameSoFar (m.known.task t) (at eqb n (record (f n) { end = Some ends.Finished }) f t))
    (sym (dep_settled (m.known.task n).kind (m.known.task n).goal (dep_of_task m.known n) m.known))
    (changed_at SameSoFar itself n t (record (m.known.task n) { end = Some ends.Finished }) m.known.task
    (record { failed = refl; pinged = refl }))
so_far_note outside m (entries.TaskError e) t may none other =
    changed_at SameSoFar itself e.task t
    (record (m.known.task e.task) { end = Some (end_by e.cause (m.known.begun (number_of e.cause))) }) m.known.task
    (record { failed = refl; pinged = refl })
so_far_note outside m (entries.Snapshot s) t may none other = absurd may
so_far_note outside m entry t may none other = itself (m.known.task t)

-- ---- an answer that is clean is no failure

not_gone_wrong : (k : Known) (b : Begin) (owner : Owner) (call : Call) → b.owner ≡ owner
    → may_be_gone k owner call ≡ true → fails_gone k b call ≡ false
not_gone_wrong k b owner (calls.Ping v) own may = refl
not_gone_wrong k b (Instance i) (calls.DeleteVm v) own may = (λ j. not (is_lost k (own j))) ∙ (λ j. not (may j))
not_gone_wrong k b (Compile t s) (calls.DeleteVm v) own may = absurd (false≢true may)
not_gone_wrong k b (Disk d) (calls.DeleteVm v) own may = absurd (false≢true may)
not_gone_wrong k b (Instance i) call own may = absurd (false≢true may)
not_gone_wrong k b (Compile t s) call own may = absurd (false≢true may)
not_gone_wrong k b (Disk d) call own may = absurd (false≢true may)

no_failure : (k : Known) (b : Begin) (answer : Answer) → not (is_failed answer) ≡ true
    → implies (is_gone answer) (may_be_gone k b.owner b.call) ≡ true → failure_of k b answer ≡ None
no_failure k b answers.Failed succeeds rightly = absurd (false≢true succeeds)
no_failure k b answers.Gone succeeds rightly =
    λ j. if not_gone_wrong k b b.owner b.call refl rightly j then Some (failures.Gone b.n) else None
no_failure k b answer succeeds rightly = refl

pub still_none_failed : (m : Moment) (b : Begin) (answer : Answer) (old : Option Failure) → is_some old ≡ false
    → is_answer_clean m b answer ≡ true → is_some (least_failure old (failure_of m.known b answer)) ≡ false
still_none_failed m b answer (Some failure) none clean = absurd (false≢true (sym none))
still_none_failed m b answer None none clean =
    let (succeeds, rest) = and_parts (not (is_failed answer)) _ clean in
    let (rightly, left) = and_parts (implies (is_gone answer) (may_be_gone m.known b.owner b.call)) _ rest in
    λ j. is_some (least_failure None (no_failure m.known b answer succeeds rightly j))

-- ---- open calls

module _ (outside : Outside) (m : Moment) (h : Holds m) (e : Entry) (may : MayNote outside m e) where
  abbrev new : Known
  new = learn m.known e

  row_same : (n : ℕ) (call : OpenCall) → m.calls n ≡ Some call → (e : Entry) → MayNote outside m e → (i : Inst)
      → call.begin.owner ≡ Instance i → Spares m e (Instance i) → (learn m.known e).row i ≡ m.known.row i
  row_same n call is (entries.Begin b) may i own apart =
      begun_apart b b.owner m.known i
      (λ same. none_open m b.owner h.known.numbers.past may.is_idle n call is (own ∙ sym same))
  row_same n call is (entries.Snapshot s) may i own apart = absurd may
  row_same n call is entry may i own apart = row_note outside m entry i may refl apart

  same_gone : (i : Inst) → new.row i ≡ m.known.row i → (call : Call)
      → may_be_gone new (Instance i) call ≡ may_be_gone m.known (Instance i) call
  same_gone i same (calls.DeleteVm v) = λ j. (same j).lost
  same_gone i same (calls.Ping v) = refl
  same_gone i same call = refl

  machine_gone : (t s : ℕ) (call : Call)
      → may_be_gone new (Compile t s) call ≡ may_be_gone m.known (Compile t s) call
  machine_gone t s (calls.DeleteVm v) = refl
  machine_gone t s (calls.Ping v) = refl
  machine_gone t s call = refl

  disk_gone : (d : ℕ) (call : Call) → may_be_gone new (Disk d) call ≡ may_be_gone m.known (Disk d) call
  disk_gone d (calls.DeleteVm v) = refl
  disk_gone d (calls.Ping v) = refl
  disk_gone d call = refl

  module _ (n : ℕ) (call : OpenCall) (is : m.calls n ≡ Some call) (open_still : LeavesOpen e n) where
    abbrev Still : Answer → Owner → Type 0
    Still answer owner =
        (may_be_gone new owner call.begin.call ≡ may_be_gone m.known owner call.begin.call)
        × (leaves_unspoiled (noting m e) call.begin answer owner ≡ leaves_unspoiled m call.begin answer owner)

    same_by : (answer : Answer) → Still answer call.begin.owner
    same_by answer = by call.begin.owner refl (spares outside m h.known n call is e may open_still)
      where
        of : (i : Inst) → new.row i ≡ m.known.row i → Still answer (Instance i)
        of i same = (
          same_gone i same call.begin.call,
          λ j. is_unspoiled m.effects (after call.begin.n call.begin.call answer (same j)),
        )

        by : (owner : Owner) → call.begin.owner ≡ owner → Spares m e call.begin.owner → Still answer call.begin.owner
        by (Instance i) own apart =
            subst (Still answer) (sym own)
            (of i (row_same n call is e may i own (subst (Spares m e) own apart)))
        by (Compile t s) own apart =
            subst (Still answer) (sym own) (machine_gone t s call.begin.call, refl)
        by (Disk d) own apart = subst (Still answer) (sym own) (disk_gone d call.begin.call, refl)

    answer_still : (did : Option Did) → where_any (λ d. is_answer_clean m call.begin d.answer) did ≡ true
        → where_any (λ d. is_answer_clean (noting m e) call.begin d.answer) did ≡ true
    answer_still (Some d) was =
        (λ j. not (is_failed d.answer)
        && (implies (is_gone d.answer) ((same_by d.answer).0 j) && (same_by d.answer).1 j)) ∙ was
    answer_still None was = refl

    pub call_still : (t : ℕ) → where_any (is_call_clean m t) (m.calls n) ≡ true
        → is_call_clean (noting m e) t call ≡ true
    call_still t was =
        implied_by (call.begin.task == t) (where_any (λ d. is_answer_clean (noting m e) call.begin d.answer) call.did)
        (λ mine. answer_still call.did
        (implied (call.begin.task == t) _ (sym (λ j. where_any (is_call_clean m t) (is j)) ∙ was) mine))

pub calls_noted : (outside : Outside) (m : Moment) → Holds m → (e : Entry) → MayNote outside m e → (t : ℕ)
    → ((n : ℕ) → where_any (is_call_clean m t) (m.calls n) ≡ true) → (n : ℕ)
    → where_any (is_call_clean (noting m e) t) ((noting m e).calls n) ≡ true
calls_noted outside m h (entries.Begin b) may t were n = by (eqb b.n n)
  where
    others : (o : Option OpenCall) → m.calls n ≡ o → where_any (is_call_clean (noting m (entries.Begin b)) t) o ≡ true
    others (Some call) is = call_still outside m h (entries.Begin b) may n call is tt t (were n)
    others None is = refl

    by : (same : Bool)
        → where_any (is_call_clean (noting m (entries.Begin b)) t)
        (if same then Some (record { begin = b; did = None }) else m.calls n) ≡ true
    by true = implied_by (b.task == t) true (λ mine. refl)
    by false = others (m.calls n) refl
calls_noted outside m h (entries.End e) may t were n = by (eqb e.n n) refl
  where
    others : (e.n == n) ≡ false → (o : Option OpenCall) → m.calls n ≡ o
        → where_any (is_call_clean (noting m (entries.End e)) t) o ≡ true
    others other (Some call) is = call_still outside m h (entries.End e) may n call is other t (were n)
    others other None is = refl

    by : (same : Bool) → eqb e.n n ≡ same
        → where_any (is_call_clean (noting m (entries.End e)) t) (if same then None else m.calls n) ≡ true
    by true same = refl
    by false other = others other (m.calls n) refl
calls_noted outside m h (entries.Snapshot s) may t were n = absurd may
calls_noted outside m h entry may t were n = by (m.calls n) refl
  where
    by : (o : Option OpenCall) → m.calls n ≡ o → where_any (is_call_clean (noting m entry) t) o ≡ true
    by (Some call) is = call_still outside m h entry may n call is tt t (were n)
    by None is = refl

-- ---- a creation that begins is of no machine yet

pub unmade : (xs : List Entry) (n : ℕ) → is_taken xs n ≡ false → holds (is_silent xs) (found_vm xs n) ≡ false
unmade xs n fresh = by (found_vm xs n) refl
  where
    by : (o : Option ℕ) → found_vm xs n ≡ o → holds (is_silent xs) o ≡ false
    by None is = refl
    by (Some v) is =
        let it : IsFoundVm xs n v = vm-found xs n v is in
        absurd (false≢true
        (sym (unnumbered xs n (Some it.e) (λ e same. vm-among xs v e (it.made ∙ same)) fresh)
        ∙ eq-eqb it.e.n n it.number))
