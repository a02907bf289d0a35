-- The updates of a group stay in turn: its canaries first.
use Rattle.std.proofs.Common.{◌≡◌, ◌∙◌, ℕ, ◌+◌, Bool, true, false, refl, ap, sym, inl, inr, arith}
use Rattle.std.specs.Prelude.{◌⊎◌, ◌≢◌, eqb, not, is_some, if◌then◌else◌}
use Rattle.std.proofs.lemmas.Bool.{and_parts, eqb-true, false≢true, or_cases, or_left, or_right}
use Rattle.std.proofs.lemmas.Bool.Decides.{eqb_tells}
use Rattle.bosh_base.specs.declared.entry.Entry.{Entry}
use Rattle.bosh_base.specs.declared.entry.Entry.TheVariants as entries
use Rattle.bosh_base.specs.declared.entry.TaskOpen.{TaskOpen}
use Rattle.bosh_base.specs.declared.inst.Inst.{Inst}
use Rattle.bosh_base.specs.declared.moves.Move.{Move}
use Rattle.bosh_base.specs.declared.moves.Move.TheVariants as moves
use Rattle.bosh_history.specs.Goals.{canaries_first, canaries_for, has_room, is_waiting, may_begin}
use Rattle.bosh_history.specs.Items.{is_finished}
use Rattle.bosh_history.specs.Known.{Task, want_in}
use Rattle.bosh_history.specs.Learn.{learn}
use Rattle.bosh_history.specs.Moments.{Moment, later, noting}
use Rattle.bosh_history.specs.Notes.{MayNote, Outside}
use Rattle.bosh_history.specs.Openings.{MayOpen}
use Rattle.bosh_history.specs.Permitted.{IsPermitted}
use Rattle.bosh_history.specs.Tasks.{task_opened}
use Rattle.bosh_history.specs.Updates.{update_at, update_done}
use Rattle.bosh_history.specs.Words.{at, is_among}
use Rattle.bosh_roll.specs.Upd.{is_busy}
use Rattle.bosh_roll.specs.declared.upd.Upd.{Upd}
use Rattle.bosh_roll.specs.declared.upd.Upd.TheVariants.{Busy, Failed, Finished, Todo}
use Rattle.bosh_rows.proofs.SameLemmas.{same_inst_decides}
use Rattle.bosh_rows.specs.Same.{same_inst}
use Rattle.laws_facts.proofs.CurrentLemmas.{none_works, worked}
use Rattle.laws_facts.proofs.DepLemmas.{dep_updated}
use Rattle.laws_facts.proofs.LockLemmas.{is_opening, note_stays}
use Rattle.laws_facts.proofs.WorkLemmas.{opens_next}
use Rattle.laws_facts.specs.KnownFacts.{KnownFacts}
use Rattle.laws_facts.specs.Owners.{works}
use Rattle.laws_facts.specs.Tasks.{is_in_turn}
use Rattle.laws_row_facts.specs.Words.{implies}
use Rattle.laws_tasks.proofs.CountLemmas.{all_where}
use Rattle.laws_tasks.proofs.TaskFrames.{SameUpdates, same_updates}
use Rattle.laws_tasks.specs.Updates.{AreInTurn}

-- ---- one task

same_turn : (a b : Task) → SameUpdates a b → (i : Inst) → is_in_turn b i ≡ is_in_turn a i
same_turn a b same i =
    λ j. is_in_turn (record a
    { kind = same.kind j; goal = same.goal j; changed = same.changed j; upd = same.upd j }) i

-- the updates that are done stay so, and one that is in flight was so before, or comes in turn now
turn_moved : (t : Task) (upd : Upd) (one : Inst) → (is_finished (t.upd one) ≡ true → is_finished upd ≡ true)
    → (is_busy upd ≡ true → canaries_first t one ≡ true) → ((i : Inst) → is_in_turn t i ≡ true) → (i : Inst)
    → is_in_turn (update_at upd one t) i ≡ true
turn_moved t upd one stays turn told i = by (same_inst one i) refl (is_busy (if same_inst one i then upd else t.upd i)) refl
  where
    still : (x : Inst) (b : Bool) → same_inst one x ≡ b → is_finished (t.upd x) ≡ true
        → is_finished (if b then upd else t.upd x) ≡ true
    still x true same is = stays (ap (λ y. is_finished (t.upd y)) ((same_inst_decides one x).0 same) ∙ is)
    still x false other is = is

    onward : canaries_first t i ≡ true → canaries_first (update_at upd one t) i ≡ true
    onward first = elim (or_cases (is_among same_inst i (canaries_for t i)) _ first) [
      | inl canary ↦ or_left (is_among same_inst i (canaries_for t i)) _ canary
      | inr done ↦ or_right (is_among same_inst i (canaries_for t i)) _
          (all_where (λ x. is_finished (t.upd x)) (λ x. is_finished (if same_inst one x then upd else t.upd x))
          (λ x is. still x (same_inst one x) refl is) (canaries_for t i) done)
    ]

    by : (b : Bool) → same_inst one i ≡ b → (c : Bool) → is_busy (if same_inst one i then upd else t.upd i) ≡ c
        → implies (is_busy (if same_inst one i then upd else t.upd i)) (canaries_first (update_at upd one t) i) ≡ true
    by b same false idle = λ j. implies (idle j) (canaries_first (update_at upd one t) i)
    by true same true busy =
        (λ j. implies (busy j) (canaries_first (update_at upd one t) i))
        ∙ onward (ap (canaries_first t) (sym ((same_inst_decides one i).0 same))
        ∙ turn (sym (λ j. is_busy (if same j then upd else t.upd i)) ∙ busy))
    by false other true busy =
        (λ j. implies (busy j) (canaries_first (update_at upd one t) i))
        ∙ onward (sym (λ j. implies (was j) (canaries_first t i)) ∙ told i)
      where
        was : is_busy (t.upd i) ≡ true
        was = sym (λ j. is_busy (if other j then upd else t.upd i)) ∙ busy

begun_turn : (t : Task) (one : Inst) → is_waiting (t.upd one) ≡ true → may_begin t one ≡ true
    → ((i : Inst) → is_in_turn t i ≡ true) → (i : Inst) → is_in_turn (update_at Busy one t) i ≡ true
begun_turn t one waits may told =
    turn_moved t Busy one (finishes (t.upd one) waits)
    (λ busy. (and_parts (has_room t one) (canaries_first t one) (and_parts (not (is_some t.failed)) _ may).1).1) told
  where
    finishes : (upd : Upd) → is_waiting upd ≡ true → is_finished upd ≡ true → is_finished Busy ≡ true
    finishes Todo waits done = absurd (false≢true done)
    finishes Busy waits done = absurd (false≢true waits)
    finishes Finished waits done = absurd (false≢true waits)
    finishes Failed waits done = absurd (false≢true waits)

done_turn : (t : Task) (one : Inst) → ((i : Inst) → is_in_turn t i ≡ true) → (i : Inst)
    → is_in_turn (update_at Finished one t) i ≡ true
done_turn t one told = turn_moved t Finished one (λ is. refl) (λ busy. absurd (false≢true busy)) told

-- ---- entries

-- where one task changes, each that worked is in turn, if that one is
turn_at : (n t : ℕ) (x : Task) (f : ℕ → Task) (i : Inst)
    → (((j : Inst) → is_in_turn (f n) j ≡ true) → is_in_turn x i ≡ true) → ((j : Inst) → is_in_turn (f t) j ≡ true)
    → is_in_turn (at eqb n x f t) i ≡ true
turn_at n t x f i goes told = by (eqb n t) refl
  where
    by : (b : Bool) → eqb n t ≡ b → is_in_turn (if b then x else f t) i ≡ true
    by true same = goes (λ j. ap (λ (k : ℕ). is_in_turn (f k) j) (eqb-true n t same) ∙ told j)
    by false other = told i

module _ (outside : Outside) (m : Moment) (h : KnownFacts m) where
  -- the updates of a task that works before an entry, and works after it
  was_in_turn : (e : Entry) → MayNote outside m e → is_opening e ≡ false → (t : ℕ) → works (noting m e) t ≡ true
      → (i : Inst) → is_in_turn (m.known.task t) i ≡ true
  was_in_turn e may none t is i =
      ((h.tasks t).working (worked m e t (note_stays outside m e may none t) is)).in_turn i

  turn_opened : (o : TaskOpen) → MayOpen m.known o → (t : ℕ) (i : Inst) → works (noting m (entries.TaskOpen o)) t ≡ true
      → is_in_turn (at eqb o.task (task_opened m.known o) m.known.task t) i ≡ true
  turn_opened o may t i is = by (eqb_tells o.task t)
    where
      number : o.task ≡ m.known.tasks + 1
      number = opens_next m.known o may

      by : ((eqb o.task t ≡ true) × (o.task ≡ t)) ⊎ ((eqb o.task t ≡ false) × (o.task ≢ t))
          → is_in_turn (at eqb o.task (task_opened m.known o) m.known.task t) i ≡ true
      by (inl new) = λ j. is_in_turn (if new.0 j then task_opened m.known o else m.known.task t) i
      by (inr old) =
          (λ j. is_in_turn (if old.0 j then task_opened m.known o else m.known.task t) i)
          ∙ ((h.tasks t).working was).in_turn i
        where
          was : works m t ≡ true
          was = grind (arith, is, old, number)

  turn_same : (e : Entry) → MayNote outside m e → is_opening e ≡ false
      → ((t : ℕ) → SameUpdates (m.known.task t) ((learn m.known e).task t)) → AreInTurn (noting m e)
  turn_same e may none same t i is =
      same_turn (m.known.task t) ((learn m.known e).task t) (same t) i ∙ was_in_turn e may none t is i

  turn_note : (e : Entry) → MayNote outside m e → AreInTurn (noting m e)
  turn_note (entries.TaskOpen o) may t i is = turn_opened o may.0 t i is
  turn_note (entries.UpdBegin u) may t i is =
      turn_at u.task t (update_at Busy u.inst (m.known.task u.task)) m.known.task i
      (λ told. begun_turn (m.known.task u.task) u.inst may.waits may.may_begin told i)
      (was_in_turn (entries.UpdBegin u) may refl t is)
  turn_note (entries.UpdDone u) may t i is =
      (λ j. is_in_turn (at eqb u.task (update_at Finished u.inst (same j u.task)) (same j) t) i)
      ∙ turn_at u.task t (update_at Finished u.inst (m.known.task u.task)) m.known.task i
      (λ told. done_turn (m.known.task u.task) u.inst told i)
      (was_in_turn (entries.UpdDone u) may refl t is)
    where
      same : (update_done (want_in (m.known.task u.task).goal u.inst) u.inst m.known).task ≡ m.known.task
      same = dep_updated (want_in (m.known.task u.task).goal u.inst) u.inst m.known
  turn_note (entries.Snapshot s) may t i is = absurd may
  turn_note entry may t i is = turn_same entry may refl (λ n. same_updates outside m entry n may refl) t i is

turn_move : (outside : Outside) (m : Moment) (move : Move) → IsPermitted outside m move → KnownFacts m
    → AreInTurn (later m move)
turn_move outside m (moves.Note e) may h t i is = turn_note outside m h e may.2 t i is
turn_move outside m (moves.Stop s) may h t i is = absurd (false≢true (sym (none_works m s t) ∙ is))
turn_move outside m move may h t i is = ((h.tasks t).working is).in_turn i

pub turns_kept : (outside : Outside) (m : Moment) (move : Move) → IsPermitted outside m move → KnownFacts m
    → AreInTurn (later m move)
turns_kept outside m move may h = turn_move outside m move may h
