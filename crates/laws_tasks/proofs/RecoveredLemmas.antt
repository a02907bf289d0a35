-- While a task is left that a stop interrupted no task opens.
use Rattle.std.proofs.Common.{◌≡◌, ◌∙◌, ℕ, ◌+◌, ◌≤◌, Bool, true, false, [], ◌∷◌, refl, ap, sym, inl, inr, arith}
use Prim.Native.Nat.{zero, suc}
use Rattle.std.specs.Prelude.{◌⊎◌, ◌≢◌, ◌||◌, eqb, nat_le, not, is_some, if◌then◌else◌}
use Rattle.std.specs.List.{list_any}
use Rattle.std.proofs.lemmas.Bool.{and_from, and_parts, false≢true, le-leb, leb-true, or_cases, or_left, or_right}
use Rattle.std.proofs.lemmas.Bool.Decides.{eqb_tells}
use Rattle.std.proofs.lemmas.List.Folds.{list_any-append}
use Rattle.bosh_base.specs.Cloud.{numbers_to}
use Rattle.bosh_base.specs.declared.entry.Entry.{Entry}
use Rattle.bosh_base.specs.declared.entry.Entry.TheVariants as entries
use Rattle.bosh_base.specs.declared.entry.TaskOpen.{TaskOpen}
use Rattle.bosh_base.specs.declared.moves.Move.{Move}
use Rattle.bosh_base.specs.declared.moves.Move.TheVariants as moves
use Rattle.bosh_history.specs.Held.{is_open}
use Rattle.bosh_history.specs.Learn.{learn}
use Rattle.bosh_history.specs.Moments.{Moment, later, noting}
use Rattle.bosh_history.specs.Notes.{MayNote, Outside}
use Rattle.bosh_history.specs.Openings.{MayOpen}
use Rattle.bosh_history.specs.Permitted.{IsPermitted}
use Rattle.bosh_history.specs.Recovered.{is_recovering, may_follow}
use Rattle.bosh_history.specs.Tasks.{task_opened}
use Rattle.laws_facts.proofs.FrameLemmas.{begun_tasks, numbers_done, numbers_end, numbers_updated}
use Rattle.laws_facts.proofs.LockLemmas.{StaysOpen, is_opening, note_stays}
use Rattle.laws_facts.proofs.WorkLemmas.{opens_next}
use Rattle.laws_facts.specs.KnownFacts.{KnownFacts}
use Rattle.laws_facts.specs.Tasks.{is_open_task}
use Rattle.laws_row_facts.specs.Words.{implies}
use Rattle.laws_tasks.specs.Updates.{AreRecovered}

-- ---- numbers up to the last

or_nothing : (b : Bool) → (b || false) ≡ b
or_nothing true = refl
or_nothing false = refl

-- where what meets the first test meets the second, one meets that where one meets this
any_more : (p q : ℕ → Bool) (last : ℕ) → ((n : ℕ) → 1 ≤ n → n ≤ last → p n ≡ true → q n ≡ true)
    → list_any p (numbers_to last) ≡ true → list_any q (numbers_to last) ≡ true
any_more p q zero goes is = absurd (false≢true is)
any_more p q (suc last) goes is =
    list_any-append q (numbers_to last) (suc last ∷ [])
    ∙ by (any_more p q last (λ n low high. goes n low (omega arith)))
    (or_cases (list_any p (numbers_to last)) (p (suc last) || false)
    (sym (list_any-append p (numbers_to last) (suc last ∷ [])) ∙ is))
  where
    by : (list_any p (numbers_to last) ≡ true → list_any q (numbers_to last) ≡ true)
        → (list_any p (numbers_to last) ≡ true) ⊎ ((p (suc last) || false) ≡ true)
        → (list_any q (numbers_to last) || (q (suc last) || false)) ≡ true
    by front (inl early) = or_left (list_any q (numbers_to last)) (q (suc last) || false) (front early)
    by front (inr late) =
        or_right (list_any q (numbers_to last)) (q (suc last) || false)
        (or_left (q (suc last)) false
        (goes (suc last) (omega arith) (omega arith) (sym (or_nothing (p (suc last))) ∙ late)))

implied : (b c : Bool) → (b ≡ true → c ≡ true) → implies b c ≡ true
implied true c goes = goes refl
implied false c goes = refl

-- ---- entries

-- an entry leaves the count of tasks, unless it opens one
same_count : (outside : Outside) (m : Moment) (e : Entry) → MayNote outside m e → is_opening e ≡ false
    → (learn m.known e).tasks ≡ m.known.tasks
same_count outside m (entries.TaskOpen o) may none = absurd (false≢true (sym none))
same_count outside m (entries.Begin b) may none = begun_tasks b b.owner m.known
same_count outside m (entries.End e) may none = (numbers_end m e.n e.answer).tasks
same_count outside m (entries.UpdDone u) may none = (numbers_updated m u.task u.inst).tasks
same_count outside m (entries.TaskDone t) may none = (numbers_done m t).tasks
same_count outside m (entries.Snapshot s) may none = absurd may
same_count outside m entry may none = refl

module _ (outside : Outside) (m : Moment) (h : KnownFacts m) where
  past : m.stopped ≤ m.known.tasks
  past = leb-true m.stopped m.known.tasks h.lists.stopped_past

  -- a task that is open now was open
  was_open : (e : Entry) → MayNote outside m e → is_opening e ≡ false → (n : ℕ) → 1 ≤ n → n ≤ m.stopped
      → is_open (learn m.known e) n ≡ true → is_open m.known n ≡ true
  was_open e may none n low high there =
      let stays : StaysOpen m.known (learn m.known e) n = note_stays outside m e may none n in
      let count : (learn m.known e).tasks ≡ m.known.tasks = same_count outside m e may none in
      let upto : m.stopped ≤ m.known.tasks = past in
      let open_now : is_open_task (learn m.known e) n ≡ true =
      and_from (nat_le 1 n) _ (le-leb 1 n low)
      (and_from (nat_le n (learn m.known e).tasks) _ (le-leb n (learn m.known e).tasks (omega arith)) there) in
      (and_parts (nat_le n m.known.tasks) _ (and_parts (nat_le 1 n) _ (stays.was open_now)).1).1

  before_same : (e : Entry) → MayNote outside m e → is_opening e ≡ false → is_recovering (noting m e) ≡ true
      → is_recovering m ≡ true
  before_same e may none = any_more (is_open (learn m.known e)) (is_open m.known) m.stopped (was_open e may none)

  recovered_same : (e : Entry) → MayNote outside m e → is_opening e ≡ false → AreRecovered (noting m e)
  recovered_same e may none =
      implied (is_recovering (noting m e)) (nat_le (learn m.known e).tasks m.stopped)
      (λ left.
      ap (λ (n : ℕ). nat_le n m.stopped) (same_count outside m e may none)
      ∙ (sym (λ j. implies (before_same e may none left j) (nat_le m.known.tasks m.stopped)) ∙ h.numbers.none_opened))

  before_opened : (o : TaskOpen) → MayOpen m.known o → is_recovering (noting m (entries.TaskOpen o)) ≡ true
      → is_recovering m ≡ true
  before_opened o may =
      any_more (is_open (learn m.known (entries.TaskOpen o))) (is_open m.known) m.stopped
      (λ n low high there. other n high (eqb_tells o.task n) there)
    where
      number : o.task ≡ m.known.tasks + 1
      number = opens_next m.known o may

      other : (n : ℕ) → n ≤ m.stopped
          → ((eqb o.task n ≡ true) × (o.task ≡ n)) ⊎ ((eqb o.task n ≡ false) × (o.task ≢ n))
          → is_open (learn m.known (entries.TaskOpen o)) n ≡ true → is_open m.known n ≡ true
      other n high (inl same) there =
          let equal : o.task ≡ n = same.1 in
          let next : o.task ≡ m.known.tasks + 1 = number in
          let upto : m.stopped ≤ m.known.tasks = past in absurd (omega arith)
      other n high (inr apart) there =
          sym (λ j. not (is_some (if apart.0 j then task_opened m.known o else m.known.task n).end)) ∙ there

  recovered_opened : (o : TaskOpen) → MayOpen m.known o → may_follow m (entries.TaskOpen o) ≡ true
      → AreRecovered (noting m (entries.TaskOpen o))
  recovered_opened o may follows =
      implied (is_recovering (noting m (entries.TaskOpen o))) (nat_le o.task m.stopped)
      (λ left. absurd (none (is_recovering m) (before_opened o may left) follows))
    where
      none : (b : Bool) → b ≡ true → (not b || false) ≡ true → ⊥
      none true is may = false≢true may
      none false is may = false≢true is

  -- no task that a stop interrupted comes back
  pub still_recovered : (e : Entry) → MayNote outside m e → is_recovering m ≡ false → is_recovering (noting m e) ≡ false
  still_recovered e may is = by (is_recovering (noting m e)) refl
    where
      before : (e : Entry) → MayNote outside m e → is_recovering (noting m e) ≡ true → is_recovering m ≡ true
      before (entries.TaskOpen o) may = before_opened o may.0
      before (entries.Snapshot s) may = absurd may
      before entry may = before_same entry may refl

      by : (b : Bool) → is_recovering (noting m e) ≡ b → is_recovering (noting m e) ≡ false
      by true left = absurd (false≢true (sym is ∙ before e may left))
      by false done = done

  recovered_note : (e : Entry) → may_follow m e ≡ true → MayNote outside m e → AreRecovered (noting m e)
  recovered_note (entries.TaskOpen o) follows may = recovered_opened o may.0 follows
  recovered_note (entries.Snapshot s) follows may = absurd may
  recovered_note entry follows may = recovered_same entry may refl

-- ---- moves

-- after a stop no task is later than it
recovered_stopped : (m : Moment) → m.stopped ≡ m.known.tasks → AreRecovered m
recovered_stopped m is =
    implied (is_recovering m) (nat_le m.known.tasks m.stopped)
    (λ left. le-leb m.known.tasks m.stopped (omega arith))

recovered_move : (outside : Outside) (m : Moment) (move : Move) → IsPermitted outside m move → KnownFacts m
    → AreRecovered (later m move)
recovered_move outside m (moves.Note e) may h = recovered_note outside m h e may.1 may.2
recovered_move outside m (moves.Stop s) may h = recovered_stopped (later m (moves.Stop s)) refl
recovered_move outside m move may h = h.numbers.none_opened

pub recovered_kept : (outside : Outside) (m : Moment) (move : Move) → IsPermitted outside m move → KnownFacts m
    → AreRecovered (later m move)
recovered_kept outside m move may h = recovered_move outside m move may h
