-- Locks: that no two tasks have one is kept by each move.
use Rattle.std.proofs.Common.{◌≡◌, ℕ, ◌+◌, Bool, true, false, ◌==◌, ◌&&◌, Option, Some, None, List, refl, ap, sym, ◌∙◌, inl, inr, arith}
use Rattle.std.specs.Prelude.{not, ◌⊎◌, ◌≢◌, is_some}
use Rattle.std.specs.Option.{option_eq}
use Rattle.std.specs.Str.{bytes_eq}
use Rattle.std.proofs.lemmas.Bool.Decides.{eqb_tells}
use Rattle.bosh_base.specs.declared.entry.Entry.{Entry}
use Rattle.bosh_base.specs.declared.entry.Entry.TheVariants as entries
use Rattle.bosh_base.specs.declared.entry.TaskOpen.{TaskOpen}
use Rattle.bosh_base.specs.declared.goal.Goal.{Goal}
use Rattle.bosh_base.specs.declared.moves.Move.{Move}
use Rattle.bosh_base.specs.declared.task.TaskKind.{TaskKind}
use Rattle.bosh_base.specs.declared.task.TaskKind.TheVariants as kinds
use Rattle.laws_facts.proofs.FrameLemmas.{begun_tasks, numbers_done, numbers_end, numbers_updated}
use Rattle.laws_facts.proofs.ListLemmas.{bytes_tells}
use Rattle.laws_facts.proofs.MoveLemmas.{all_to, by_note}
use Rattle.laws_facts.proofs.DepLemmas.{dep_begin, dep_settled, dep_updated, ended_dep}
use Rattle.laws_facts.proofs.WorkLemmas.{end_begin, ended_end, opens_next}
use Rattle.laws_facts.specs.KnownFacts.{KnownFacts}
use Rattle.laws_facts.specs.Kept.{HaveOwnLocks}
use Rattle.laws_facts.specs.Tasks.{has_another_lock, is_open_task}
use Rattle.laws_row_facts.specs.Words.{implies}
use Rattle.bosh_history.specs.Held.{is_open}
use Rattle.bosh_history.specs.Known.{Known, dep_of_task, want_in}
use Rattle.bosh_history.specs.Learn.{learn}
use Rattle.bosh_history.specs.Moments.{Moment, later}
use Rattle.bosh_history.specs.Notes.{MayNote, Outside}
use Rattle.bosh_history.specs.Openings.{MayOpen, OpensBy, OpensDisks, OpensFor, is_free}
use Rattle.bosh_history.specs.Permitted.{IsPermitted}
use Rattle.bosh_history.specs.Tasks.{settles}
use Rattle.bosh_history.specs.Updates.{update_done}

-- ---- a lock that is free

pub locks_equal : (a b : Option (List ℕ)) → option_eq bytes_eq a b ≡ true → a ≡ b
locks_equal (Some a) (Some b) is = grind (arith, is, bytes_tells a b)
locks_equal (Some a) None is = absurd cc
locks_equal None (Some b) is = absurd cc
locks_equal None None is = refl

lock_itself : (a : Option (List ℕ)) → option_eq bytes_eq a a ≡ true
lock_itself (Some a) = grind (arith, bytes_tells a a)
lock_itself None = refl

free_for : (k : Known) (o : TaskOpen) (goal : Option Goal) → OpensFor k o goal → is_free k o.dep ≡ true
free_for k o (Some goal) may = may.is_free
free_for k o None may = absurd may

free_on : (k : Known) (o : TaskOpen) (goal : Option Goal) → OpensDisks k o goal → is_free k o.dep ≡ true
free_on k o (Some goal) may = absurd may
free_on k o None may = may.is_free

free_by : (k : Known) (o : TaskOpen) (kind : TaskKind) → OpensBy k o kind → is_free k o.dep ≡ true
free_by k o kinds.CleanUp may = free_on k o o.goal may.0
free_by k o (kinds.DeleteDisk d) may = free_on k o o.goal may.0
free_by k o kind may = free_for k o o.goal may

-- no task that is there has the lock of one that opens
pub no_other : (k : Known) (o : TaskOpen) (t : ℕ) → MayOpen k o → is_open_task k t ≡ true → (k.task t).dep ≢ o.dep
no_other k o t may there same =
    let test : not (is_open k t && option_eq bytes_eq (k.task t).dep o.dep) ≡ true =
    all_to (λ t. not (is_open k t && option_eq bytes_eq (k.task t).dep o.dep)) k.tasks t (free_by k o o.kind may)
    (grind (arith, there)) (grind (arith, there)) in
    let equal : option_eq bytes_eq (k.task t).dep o.dep ≡ true =
    ap (λ dep. option_eq bytes_eq dep o.dep) same ∙ lock_itself o.dep in
    absurd (grind (arith, test, equal, there))

-- ---- the tasks that are open

-- a task that is open now was open, with the same lock
pub record StaysOpen (old new : Known) (t : ℕ) : Type 0 where
  pub was : is_open_task new t ≡ true → is_open_task old t ≡ true
  pub dep : (new.task t).dep ≡ (old.task t).dep

locks_same : (old new : Known) (t other : ℕ) → StaysOpen old new t → StaysOpen old new other
    → has_another_lock old t other ≡ true → has_another_lock new t other ≡ true
locks_same old new t other one two is = by (is_open_task new t) (is_open_task new other) refl refl
  where
    by : (a b : Bool) → is_open_task new t ≡ a → is_open_task new other ≡ b → has_another_lock new t other ≡ true
    by true true open_now also =
        (λ i. implies (open_now i && (also i && option_eq bytes_eq (one.dep i) (two.dep i))) (t == other))
        ∙ grind (arith, is, one.was open_now, two.was also)
    by true false open_now
        also = (λ i. implies (open_now i && (also i && option_eq bytes_eq (new.task t).dep (new.task other).dep))
        (t == other))
    by false b open_now
        also = (λ i. implies
        (open_now i && (is_open_task new other && option_eq bytes_eq (new.task t).dep (new.task other).dep))
        (t == other))

abbrev pub is_opening : Entry → Bool
is_opening (entries.TaskOpen o) = true
is_opening entry = false

-- it has the same end, or it has one
stays : (old new : Known) (t : ℕ) → new.tasks ≡ old.tasks → (new.task t).dep ≡ (old.task t).dep
    → (is_open new t ≡ true → is_open old t ≡ true) → StaysOpen old new t
stays old new t tasks dep was = record {
  was = λ there. grind (arith, there, tasks, was);
  dep = dep;
}

open_as : (old new : Known) (t : ℕ) → (new.task t).end ≡ (old.task t).end → is_open new t ≡ true → is_open old t ≡ true
open_as old new t end there = sym (λ i. not (is_some (end i))) ∙ there

pub note_stays : (outside : Outside) (m : Moment) (e : Entry) → MayNote outside m e → is_opening e ≡ false → (t : ℕ)
    → StaysOpen m.known (learn m.known e) t
note_stays outside m (entries.Begin b) may none t =
    stays m.known (learn m.known (entries.Begin b)) t (begun_tasks b b.owner m.known) (dep_begin m b t)
    (open_as m.known (learn m.known (entries.Begin b)) t (end_begin m b t))
note_stays outside m (entries.End e) may none t =
    stays m.known (learn m.known (entries.End e)) t (numbers_end m e.n e.answer).tasks
    (ended_dep e.answer (m.known.begun e.n) m.known t)
    (open_as m.known (learn m.known (entries.End e)) t (ended_end e.answer (m.known.begun e.n) m.known t))
note_stays outside m (entries.TaskOpen o) may none t = absurd cc
note_stays outside m (entries.UpdBegin u) may none t =
    stays m.known (learn m.known (entries.UpdBegin u)) t refl (grind (arith, eqb_tells u.task t))
    (open_as m.known (learn m.known (entries.UpdBegin u)) t (grind (arith, eqb_tells u.task t)))
note_stays outside m (entries.UpdDone u) may none t =
    let same : (update_done (want_in (m.known.task u.task).goal u.inst) u.inst m.known).task ≡ m.known.task =
    dep_updated (want_in (m.known.task u.task).goal u.inst) u.inst m.known in
    stays m.known (learn m.known (entries.UpdDone u)) t (numbers_updated m u.task u.inst).tasks
    (grind (arith, eqb_tells u.task t, same))
    (open_as m.known (learn m.known (entries.UpdDone u)) t (grind (arith, eqb_tells u.task t, same)))
note_stays outside m (entries.Gone u) may none t =
    stays m.known (learn m.known (entries.Gone u)) t refl (grind (arith, eqb_tells u.task t))
    (open_as m.known (learn m.known (entries.Gone u)) t (grind (arith, eqb_tells u.task t)))
note_stays outside m (entries.TaskDone task) may none t =
    let same :
    (settles (m.known.task task).kind (m.known.task task).goal (dep_of_task m.known task) m.known).task ≡
    m.known.task =
    dep_settled (m.known.task task).kind (m.known.task task).goal (dep_of_task m.known task) m.known in
    stays m.known (learn m.known (entries.TaskDone task)) t (numbers_done m task).tasks
    (grind (arith, eqb_tells task t, same))
    (λ there. grind (arith, eqb_tells task t, same, there))
note_stays outside m (entries.TaskError e) may none t =
    stays m.known (learn m.known (entries.TaskError e)) t refl (grind (arith, eqb_tells e.task t))
    (λ there. grind (arith, eqb_tells e.task t, there))
note_stays outside m (entries.Snapshot s) may none t = absurd may
note_stays outside m entry may none t = stays m.known (learn m.known entry) t refl refl (λ there. there)

-- ---- a task opens

locks_opened : (m : Moment) (o : TaskOpen) → MayOpen m.known o → HaveOwnLocks m.known → HaveOwnLocks
    (learn m.known (entries.TaskOpen o))
locks_opened m o may has t other = by (eqb_tells o.task t) (eqb_tells o.task other)
  where
    number : o.task ≡ m.known.tasks + 1
    number = opens_next m.known o may

    new : Known
    new = learn m.known (entries.TaskOpen o)

    -- one that was there before
    was : (t : ℕ) → (o.task == t) ≡ false → StaysOpen m.known new t
    was t apart = record {
      was = λ there. grind (arith, there, apart, number, eqb_tells o.task t);
      dep = grind (arith, apart);
    }

    -- the new one, and one that was there
    apart_from : (t : ℕ) → (o.task == t) ≡ false → is_open_task new t ≡ true
        → option_eq bytes_eq o.dep (m.known.task t).dep ≡ false
    apart_from t apart there = tells (option_eq bytes_eq o.dep (m.known.task t).dep) refl
      where
        tells : (b : Bool) → option_eq bytes_eq o.dep (m.known.task t).dep ≡ b
            → option_eq bytes_eq o.dep (m.known.task t).dep ≡ false
        tells true is = absurd
            (no_other m.known o t may ((was t apart).was there) (sym (locks_equal o.dep (m.known.task t).dep is)))
        tells false is = is

    by : ((o.task == t) ≡ true) × (o.task ≡ t) ⊎ ((o.task == t) ≡ false) × (o.task ≢ t)
        → ((o.task == other) ≡ true) × (o.task ≡ other) ⊎ ((o.task == other) ≡ false) × (o.task ≢ other)
        → has_another_lock new t other ≡ true
    by (inl one) (inl two) = grind (arith, eqb_tells t other, sym one.1 ∙ two.1)
    by (inl one) (inr two) = here (is_open_task new other) refl
      where
        here : (b : Bool) → is_open_task new other ≡ b → has_another_lock new t other ≡ true
        here true there = grind (arith, one, two, apart_from other two.0 there)
        here false there = grind (arith, there)
    by (inr one) (inl two) = here (is_open_task new t) refl
      where
        flipped : option_eq bytes_eq (m.known.task t).dep o.dep ≡ true
            → option_eq bytes_eq o.dep (m.known.task t).dep ≡ true
        flipped is = ap (λ dep. option_eq bytes_eq o.dep dep) (locks_equal (m.known.task t).dep o.dep is)
            ∙ lock_itself o.dep

        here : (b : Bool) → is_open_task new t ≡ b → has_another_lock new t other ≡ true
        here true there = grind (arith, one, two, apart_from t one.0 there, flipped)
        here false there = grind (arith, there)
    by (inr one) (inr two) = locks_same m.known new t other (was t one.0) (was other two.0) (has t other)

locks_note : (outside : Outside) (m : Moment) (e : Entry) → MayNote outside m e → HaveOwnLocks m.known → HaveOwnLocks
    (learn m.known e)
locks_note outside m (entries.TaskOpen o) may has t other = locks_opened m o may.0 has t other
locks_note outside m (entries.Snapshot s) may has t other = absurd may
locks_note outside m entry may has t other =
    locks_same m.known (learn m.known entry) t other (note_stays outside m entry may refl t)
    (note_stays outside m entry may refl other)
    (has t other)

pub locks_kept : (outside : Outside) (m : Moment) (move : Move) → IsPermitted outside m move
    → KnownFacts m → HaveOwnLocks (later m move).known
locks_kept outside m move may h =
    by_note outside HaveOwnLocks m (λ e also. locks_note outside m e also (λ t other. (h.tasks t).another_lock other))
    (λ t other. (h.tasks t).another_lock other) move may
