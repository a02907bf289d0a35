-- A compile machine of a task that works, of which no call failed, is in doubt of its open call alone.
use Rattle.std.proofs.Common.{◌≡◌, ◌∙◌, ℕ, ◌+◌, Bool, true, false, ◌&&◌, not, Option, Some, None}
use Rattle.std.proofs.Common.{refl, sym, inl, inr, arith}
use Rattle.std.specs.Prelude.{if◌then◌else◌, ◌⊎◌, ◌≢◌, ◌==◌, eqb, is_some, nat_le}
use Rattle.std.proofs.lemmas.Bool.{and_parts, eqb-true, false≢true}
use Rattle.std.proofs.lemmas.Bool.Decides.{eqb_tells, nat_tests}
use Rattle.bosh_base.specs.declared.entry.Entry.{Entry}
use Rattle.bosh_base.specs.declared.entry.Entry.TheVariants as entries
use Rattle.bosh_base.specs.declared.entry.TaskOpen.{TaskOpen}
use Rattle.bosh_base.specs.declared.moves.Did.{Did}
use Rattle.bosh_base.specs.declared.moves.Move.{Move}
use Rattle.bosh_base.specs.declared.moves.Move.TheVariants as moves
use Rattle.bosh_history.specs.Learn.{learn}
use Rattle.bosh_history.specs.Moments.{Moment, OpenCall, later, noting, performed_call}
use Rattle.bosh_history.specs.Notes.{MayNote, Outside}
use Rattle.bosh_history.specs.Permitted.{IsPermitted}
use Rattle.bosh_history.specs.Recovered.{may_follow}
use Rattle.bosh_history.specs.Tasks.{task_opened}
use Rattle.bosh_history.specs.Words.{at}
use Rattle.laws_facts.proofs.CurrentLemmas.{none_works, worked}
use Rattle.laws_facts.proofs.LockLemmas.{is_opening, note_stays}
use Rattle.laws_facts.proofs.WorkLemmas.{opens_next}
use Rattle.laws_facts.specs.CompileMachines.{is_open_for_slot, is_slot_doubt_open}
use Rattle.laws_facts.specs.KnownFacts.{KnownFacts}
use Rattle.laws_facts.specs.Owners.{works}
use Rattle.laws_items.proofs.SlotFrames.{slots_note}
use Rattle.laws_machines.proofs.FailLemmas.{failed_note}
use Rattle.laws_machines.proofs.GoalLemmas.{implied_by, none_of_new}
use Rattle.laws_machines.specs.Machines.{AreDoubtsOpen}
use Rattle.laws_tasks.proofs.CountLemmas.{not_so}
use Rattle.laws_machines.proofs.DoubtLemmas.{IsOpenFor, begun_open, tested, was_open}
use Rattle.laws_machines.proofs.AnswerLemmas.{answered_open}

-- ---- entries

-- a task that works beside one that opens worked before
pub worked_beside : (m : Moment) (o : TaskOpen) (t : ℕ) → o.task ≡ m.known.tasks + 1 → (o.task == t) ≡ false
    → o.task ≢ t
    → works (noting m (entries.TaskOpen o)) t ≡ true → works m t ≡ true
worked_beside m o t number apart differs working = grind (arith, number, apart, differs, working)

-- a number after the last is none of those up to it
pub past_last : (last n t : ℕ) → n ≡ last + 1 → n ≡ t → nat_le t last ≡ false
past_last last n t number same = grind (arith, nat_tests, number, same)

module _ (outside : Outside) (m : Moment) (h : KnownFacts m) (t s : ℕ) where
  -- the task worked before an entry that opens none, and no call of it had failed
  worked_well : (e : Entry) → MayNote outside m e → is_opening e ≡ false → works (noting m e) t ≡ true
      → is_some ((learn m.known e).task t).failed ≡ false
      → (works m t ≡ true) × (is_some (m.known.task t).failed ≡ false)
  worked_well e may none working unfailed =
      (worked m e t (note_stays outside m e may none t) working, failed_note outside m e t may none unfailed)

  doubts_note : (e : Entry) → may_follow m e ≡ true → MayNote outside m e → works (noting m e) t ≡ true
      → is_some ((learn m.known e).task t).failed ≡ false → IsOpenFor (learn m.known e) (noting m e).calls t s
  doubts_note (entries.Begin b) follows may working unfailed =
      let before : (works m t ≡ true) × (is_some (m.known.task t).failed ≡ false) =
      worked_well (entries.Begin b) may refl working unfailed in
      begun_open m h t s before.0 before.1 b may
  doubts_note (entries.End e) follows may working unfailed =
      let before : (works m t ≡ true) × (is_some (m.known.task t).failed ≡ false) =
      worked_well (entries.End e) may refl working unfailed in
      answered_open m h e may t s before.0 before.1 unfailed
  doubts_note (entries.TaskOpen o) follows may working unfailed = by (eqb_tells o.task t)
    where
      number : o.task ≡ m.known.tasks + 1
      number = opens_next m.known o may.0

      by : ((o.task == t) ≡ true) × (o.task ≡ t) ⊎ ((o.task == t) ≡ false) × (o.task ≢ t)
          → IsOpenFor (learn m.known (entries.TaskOpen o)) m.calls t s
      by (inl same) it d is has =
          let none : m.known.slot t s ≡ None = none_of_new m h t s (past_last m.known.tasks o.task t number same.1) in
          let slot : m.known.slot t s ≡ Some it = is in absurd cc
      by (inr apart) it d is has =
          was_open m h t s (worked_beside m o t number apart.0 apart.1 working)
          (sym (λ j. is_some (if apart.0 j then task_opened m.known o else m.known.task t).failed) ∙ unfailed) it d is
          has
  doubts_note (entries.Snapshot it) follows may working unfailed = absurd may
  doubts_note entry follows may working unfailed =
      let before : (works m t ≡ true) × (is_some (m.known.task t).failed ≡ false) =
      worked_well entry may refl working unfailed in
      λ it d is has. was_open m h t s before.0 before.1 it d
      (sym (λ j. slots_note outside m entry may refl j t s) ∙ is) has

-- ---- moves

from_test : (m : Moment) (t s : ℕ)
    → (works m t ≡ true → is_some (m.known.task t).failed ≡ false → IsOpenFor m.known m.calls t s)
    → is_slot_doubt_open m t s ≡ true
from_test m t s open_for =
    implied_by (works m t && not (is_some (m.known.task t).failed)) _
    (λ good.
    let parts : (works m t ≡ true) × (not (is_some (m.known.task t).failed) ≡ true) =
    and_parts (works m t) (not (is_some (m.known.task t).failed)) good in
    tested m.known m.calls t s (open_for parts.0 (not_so (is_some (m.known.task t).failed) parts.1)))

-- what the cloud did of a call leaves whose it is
performed_open : (m : Moment) (d : Did) (t s n : ℕ) → is_open_for_slot t s (m.calls n) ≡ true
    → is_open_for_slot t s (at eqb d.n (performed_call d (m.calls d.n)) m.calls n) ≡ true
performed_open m d t s n is = by (eqb d.n n) refl
  where
    performed : (call : Option OpenCall) → is_open_for_slot t s call ≡ true
        → is_open_for_slot t s (performed_call d call) ≡ true
    performed (Some call) is = is
    performed None is = is

    by : (c : Bool) → eqb d.n n ≡ c
        → is_open_for_slot t s (if c then performed_call d (m.calls d.n) else m.calls n) ≡ true
    by true same =
        performed (m.calls d.n) ((λ j. is_open_for_slot t s (m.calls (eqb-true d.n n same j))) ∙ is)
    by false other = is

doubts_move : (outside : Outside) (m : Moment) (move : Move) → IsPermitted outside m move → KnownFacts m
    → AreDoubtsOpen (later m move)
doubts_move outside m (moves.Note e) may h t s = from_test (noting m e) t s (doubts_note outside m h t s e may.1 may.2)
doubts_move outside m (moves.Did d) may h t s =
    from_test (later m (moves.Did d)) t s
    (λ working unfailed it doubt is has.
    performed_open m d t s doubt.n (was_open m h t s working unfailed it doubt is has))
doubts_move outside m (moves.Stop it) may h t s =
    from_test (later m (moves.Stop it)) t s
    (λ working unfailed. absurd (false≢true (sym (none_works m it t) ∙ working)))
doubts_move outside m move may h t s = (h.slots_work t s).doubt_open

pub doubts_kept : (outside : Outside) (m : Moment) (move : Move) → IsPermitted outside m move → KnownFacts m
    → AreDoubtsOpen (later m move)
doubts_kept outside m move may h = doubts_move outside m move may h
