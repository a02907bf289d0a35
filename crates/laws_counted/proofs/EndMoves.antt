-- The calls of a clean task stay few, when a call is answered.
use Rattle.std.proofs.Common.{◌≡◌, ◌≢◌, ◌∙◌, ℕ, Bool, true, false, Some, None}
use Rattle.std.proofs.Common.{refl, sym}
use Rattle.std.specs.Prelude.{◌&&◌, ◌||◌, ◌==◌, eqb, if◌then◌else◌, not}
use Rattle.std.proofs.lemmas.Bool.{and_parts, eq-eqb, eqb-true, false≢true, not-true}
use Rattle.bosh_base.specs.Answer.{is_kind}
use Rattle.bosh_base.specs.Call.{method_of}
use Rattle.bosh_base.specs.CallStep.{is_gone}
use Rattle.bosh_base.specs.Method.{is_changing}
use Rattle.bosh_base.specs.declared.answer.Answer.{Answer}
use Rattle.bosh_base.specs.declared.answer.Answer.TheVariants as answers
use Rattle.bosh_base.specs.declared.call.Call.{Call}
use Rattle.bosh_base.specs.declared.call.Call.TheVariants as calls
use Rattle.bosh_base.specs.declared.entry.Begin.{Begin}
use Rattle.bosh_base.specs.declared.entry.End.{End}
use Rattle.bosh_base.specs.declared.entry.Entry.TheVariants as entries
use Rattle.bosh_base.specs.declared.inst.Inst.{Inst}
use Rattle.bosh_base.specs.declared.moves.Did.{Did}
use Rattle.bosh_base.specs.declared.owner.Owner.{Owner}
use Rattle.bosh_base.specs.declared.owner.Owner.TheVariants.{Compile, Disk, Instance}
use Rattle.bosh_history.specs.Calls.{call_ended, task_after_ping, task_told}
use Rattle.bosh_history.specs.Items.{is_item, is_leftover, is_to_ping}
use Rattle.bosh_history.specs.Known.{Known, Slot, SlotName, Task, want_in}
use Rattle.bosh_history.specs.Moments.{Moment, OpenCall, noting}
use Rattle.bosh_history.specs.Notes.{MayNote, Outside}
use Rattle.bosh_history.specs.Orders.{same_slot}
use Rattle.bosh_history.specs.Recovered.{may_follow}
use Rattle.bosh_history.specs.Slots.{slot_after}
use Rattle.bosh_history.specs.Steps.{is_owners}
use Rattle.bosh_history.specs.Words.{is_among}
use Rattle.bosh_lawful.specs.Clean.{is_failed}
use Rattle.bosh_rows.proofs.SameLemmas.{same_inst_decides}
use Rattle.bosh_rows.specs.After.{after}
use Rattle.bosh_rows.specs.Same.{same_inst}
use Rattle.bosh_rows.specs.Standing.{same_truth}
use Rattle.laws_clean.specs.Unfailed.{UnfailedFacts}
use Rattle.laws_cloud.proofs.CallLemmas.{slot_some}
use Rattle.laws_cloud.proofs.TellLemmas.{truth_is}
use Rattle.laws_compiling.proofs.GrowthLemmas.{compiled_stays}
use Rattle.laws_counted.proofs.CallFrames.{begins_of, ended_calls}
use Rattle.laws_counted.proofs.CountLemmas.{budgeted_dep, counted_same}
use Rattle.laws_counted.proofs.NoteMoves.{ended_count, low_of, not_among}
use Rattle.laws_counted.proofs.OwnLemmas.{IsOwn, earlier_is, open_own, own_instance, own_slot, own_swept}
use Rattle.laws_counted.proofs.SlotEnds.{and_no, ended_slot, few_ended}
use Rattle.laws_counted.proofs.SlotFacts.{slots_left}
use Rattle.laws_counted.proofs.SlotMoves.{slot_below}
use Rattle.laws_counted.proofs.StepFrames.{kept_itself, steps_same}
use Rattle.laws_counted.proofs.StepMoves.{steps_ended}
use Rattle.laws_counted.proofs.StillLemmas.{budgeted_as, earlier_kept, few_as, goes_on_as, same_for}
use Rattle.laws_counted.proofs.SweepLemmas.{sweep_ended, sweep_same}
use Rattle.laws_counts.specs.Counts.{CleanFacts, SweepFacts, are_slots_few, compiles_package, is_call_of_slot}
use Rattle.laws_counts.specs.Counts.{is_slot_call, makes_or_deletes, owner_of}
use Rattle.laws_counts.specs.Courses.{Account}
use Rattle.laws_counts.specs.RowSteps.{StepFacts, is_budgeted}
use Rattle.laws_facts.proofs.MadeLemmas.{same_tasks}
use Rattle.laws_facts.specs.Clean.{is_answer_clean, is_call_clean, may_be_gone}
use Rattle.laws_facts.specs.Facts.{Holds}
use Rattle.laws_facts.specs.OpenCalls.{fits_slot, is_asked, is_never_gone, is_told_in_kind}
use Rattle.laws_facts.specs.Owners.{works}
use Rattle.laws_heard.proofs.AnswerLemmas.{implied}
use Rattle.laws_heard.proofs.NoteLemmas.{implied_by}
use Rattle.laws_items.proofs.ItemFrames.{onward}
use Rattle.laws_items.proofs.MarkLemmas.{Spares, mark_note, onward_note}
use Rattle.laws_items.proofs.OnwardLemmas.{was_to_ping}
use Rattle.laws_items.proofs.OwnerLemmas.{same_owner_is}
use Rattle.laws_items.proofs.RowFrames.{ended_own, row_note}
use Rattle.laws_items.proofs.SlotFrames.{answered_apart}
use Rattle.laws_kept_rows.proofs.NotedLemmas.{Tells, is_other, is_owner, tells}
use Rattle.laws_row_facts.specs.Calls.{is_ping}
use Rattle.laws_row_facts.specs.Words.{implies, where_any}
use Rattle.laws_tasks.proofs.TaskFrames.{OpenedAlike, opened_stays}

-- no call of a compile machine of a clean task finds anything gone
machine_here : (k : Known) (n t s : ℕ) (call : Call) (it : Slot) → fits_slot n call it ≡ true
    → may_be_gone k (Compile t s) call ≡ false
machine_here k n t s (calls.Ping v) it fits = absurd (false≢true fits)
machine_here k n t s (calls.DeleteVm v) it fits = refl
machine_here k n t s call it fits = refl

kind_of : (call : Call) (d : Did) → is_failed d.answer ≡ false → is_told_in_kind call d ≡ true
    → is_kind (method_of call) d.answer ≡ true
kind_of call d well is =
    (and_parts (is_kind (method_of call) d.answer) _
    (sym (λ j. well j || (is_kind (method_of call) d.answer
    && (same_truth d.effect (is_changing (method_of call) && not (is_gone d.answer))
    && not (is_never_gone call && is_gone d.answer)))) ∙ is)).0

module _ (outside : Outside) (m : Moment) (h : Holds m) (e : End) (may : MayNote outside m (entries.End e))
    (follows : may_follow m (entries.End e) ≡ true) (that : OpenCall) (open_now : m.calls e.n ≡ Some that) (d : Did)
    (did : that.did ≡ Some d) (told : d.answer ≡ e.answer) (later : Holds (noting m (entries.End e))) (t : ℕ)
    (working : works m t ≡ true) (u : UnfailedFacts m t) (a : Account) (f : CleanFacts outside.built m t a) where
  abbrev n : Moment
  n = noting m (entries.End e)

  abbrev old : Task
  old = m.known.task t

  abbrev new : Task
  new = n.known.task t

  abbrev b : Begin
  b = that.begin

  begun : m.known.begun e.n ≡ Some b
  begun = (h.known.calls e.n that open_now).begun

  alike : OpenedAlike old new
  alike = opened_stays outside m (entries.End e) t may refl

  spares : (owner : Owner) → b.owner ≢ owner → Spares m (entries.End e) owner
  spares owner other x is same =
      let one : b ≡ x = let two : Some b ≡ Some x = sym begun ∙ is in cc in other ((λ j. (one j).owner) ∙ same)

  -- ---- the answer

  its_own : (owner : Owner) → IsOwn m t owner → b.owner ≡ owner → b.task ≡ t
  its_own owner mine own = open_own m h.known t owner mine e.n that open_now own

  clean : b.task ≡ t → is_answer_clean m b e.answer ≡ true
  clean mine =
      (λ j. is_answer_clean m b (sym told j))
      ∙ (sym (λ j. where_any (λ d. is_answer_clean m b d.answer) (did j))
      ∙ implied (b.task == t) _ (sym (λ j. where_any (is_call_clean m t) (open_now j)) ∙ u.calls e.n)
      (eq-eqb b.task t mine))

  well : b.task ≡ t → is_failed e.answer ≡ false
  well mine = not-true (is_failed e.answer) (and_parts (not (is_failed e.answer)) _ (clean mine)).0

  here : b.task ≡ t → (task s : ℕ) → b.owner ≡ Compile task s → is_gone e.answer ≡ false
  here mine task s own = by (is_gone e.answer) refl
    where
      rightly : implies (is_gone e.answer) (may_be_gone m.known b.owner b.call) ≡ true
      rightly =
          (and_parts (implies (is_gone e.answer) (may_be_gone m.known b.owner b.call)) _
          (and_parts (not (is_failed e.answer)) _ (clean mine)).1).0

      never : may_be_gone m.known b.owner b.call ≡ false
      never =
          let (it, there, fits) = slot_some m h e.n that open_now task s own in
          (λ j. may_be_gone m.known (own j) b.call) ∙ machine_here m.known b.n task s b.call it fits

      by : (gone : Bool) → is_gone e.answer ≡ gone → gone ≡ false
      by true gone =
          absurd (false≢true
          (sym never ∙ implied (is_gone e.answer) (may_be_gone m.known b.owner b.call) rightly gone))
      by false not_gone = refl

  kind : b.task ≡ t → is_kind (method_of b.call) e.answer ≡ true
  kind mine =
      kind_of b.call (record d { answer = e.answer }) (well mine)
      ((λ j. is_told_in_kind b.call (record d { answer = sym told j }))
      ∙ (sym (λ j. where_any (is_told_in_kind b.call) (did j)) ∙ (h.known.calls e.n that open_now).in_kind))

  -- no call of its owner is open any more
  none_left : (owner : Owner) → b.owner ≡ owner → (k : ℕ) (call : OpenCall) → n.calls k ≡ Some call
      → call.begin.owner ≡ owner → ⊥
  none_left owner own k call is mine = by (eqb e.n k) refl is
    where
      by : (same : Bool) → eqb e.n k ≡ same → (if same then None else m.calls k) ≡ Some call → ⊥
      by true same is = absurd cc
      by false other is =
          let one : k ≡ e.n = (h.known.calls e.n that open_now).one_call k call is (mine ∙ sym own) in
          false≢true (sym other ∙ eq-eqb e.n k (sym one))

  -- ---- an instance

  module _ (i : Inst) (budgeted : is_budgeted old i ≡ true) where
    other_steps : b.owner ≢ Instance i → StepFacts outside.built n new a i
    other_steps other =
        steps_same outside.built m n old new a a i later.known.numbers.past
        (ended_calls m e that open_now (Instance i) other)
        (row_note outside m (entries.End e) i may refl (spares (Instance i) other))
        (same_for old new i alike
        (mark_note outside m (entries.End e) (Instance i) t may refl (spares (Instance i) other)))
        (λ going.
        sym (goes_on_as old new i alike
        (mark_note outside m (entries.End e) (Instance i) t may refl (spares (Instance i) other))) ∙ going)
        (kept_itself a i) (f.steps i budgeted)

    module _ (own : b.owner ≡ Instance i) where
      mine : b.task ≡ t
      mine = its_own (Instance i) (own_instance m h.known t working i (budgeted_dep m h.known t working i budgeted)) own

      asked : is_ping b.call ≡ is_to_ping old i
      asked =
          truth_is (is_ping b.call) (is_asked (m.known.task b.task) b.owner)
          (and_parts (is_item m.known b.task b.owner) _ (h.known.calls e.n that open_now).of_item).1
          ∙ (λ j. is_asked (m.known.task (mine j)) (own j))

      -- an instance that answered is asked no more
      answered_now : is_ping b.call ≡ true → new.pinged i ≡ true
      answered_now ping =
          (λ j. ((call_ended e.answer (begun j) m.known).task t).pinged i)
          ∙ ((λ j. (if eq-eqb b.task t mine j then task_told m.known b e.answer (m.known.task b.task)
          else m.known.task t).pinged i)
          ∙ ((λ j. (task_after_ping b.call e.answer (own j) (m.known.task b.task)).pinged i)
          ∙ by b.call e.answer ping (well mine)))
        where
          by : (call : Call) (answer : Answer) → is_ping call ≡ true → is_failed answer ≡ false
              → (task_after_ping call answer (Instance i) (m.known.task b.task)).pinged i ≡ true
          by (calls.Ping vm) answers.Failed ping well = absurd (false≢true (sym well))
          by (calls.Ping vm) answer ping well =
              λ j. if (same_inst_decides i i).1 refl j then true else (m.known.task b.task).pinged i
          by call answer ping well = absurd (false≢true ping)

      asks_no_more : is_to_ping new i ≡ false
      asks_no_more = by (is_ping b.call) refl
        where
          by : (ping : Bool) → is_ping b.call ≡ ping → is_to_ping new i ≡ false
          by true ping = and_no (is_among same_inst i new.to_ping) _ (λ j. not (answered_now ping j))
          by false plain =
              not_among (is_to_ping new i)
              (λ asks.
              false≢true (sym plain ∙ (asked
              ∙ was_to_ping old new (onward_note outside m (entries.End e) t may refl) i asks)))

      own_steps : StepFacts outside.built n new a i
      own_steps =
          steps_ended outside.built m n old new a a i b d e.n (none_left (Instance i) own)
          (open_now ∙ (λ j. Some (record that { did = did j }))) own asked asks_no_more
          (λ j. want_in (alike.goal j) i)
          ((λ j. (call_ended e.answer (begun j) m.known).row i)
          ∙ (ended_own e.answer b m.known i own ∙ (λ j. after b.n b.call (sym told j) (m.known.row i)))) refl refl refl
          (f.steps i budgeted)

    either_steps : Tells b.owner (Instance i) → StepFacts outside.built n new a i
    either_steps (is_owner own) = own_steps own
    either_steps (is_other other) = other_steps other

  -- ---- a machine that is swept

  slot_apart : (task s : ℕ) → b.owner ≢ Compile task s → n.known.slot task s ≡ m.known.slot task s
  slot_apart task s other =
      answered_apart e.answer (m.known.begun e.n) m.known task s (spares (Compile task s) other)

  slot_told : (task s : ℕ) → b.owner ≡ Compile task s
      → n.known.slot task s ≡ slot_after b.n b.call e.answer (m.known.slot task s)
  slot_told task s own =
      (λ j. (call_ended e.answer (begun j) m.known).slot task s) ∙ ended_slot m.known b e.answer task s own

  swept : (name : SlotName) → SweepFacts m t a name → Tells b.owner (owner_of name) → SweepFacts n t a name
  swept name was (is_owner own) =
      let mine : b.task ≡ t =
      its_own (owner_of name) (own_swept m h.known t working name (earlier_is m t name was.earlier)) own in
      sweep_ended m n t e.n a a name that e.answer open_now own (none_left (owner_of name) own)
      (earlier_kept m n t name (same_tasks outside m (entries.End e) may) (low_of m t working) was.earlier)
      (slot_told name.task name.slot own) refl (well mine) (here mine name.task name.slot own) (kind mine) was
  swept name was (is_other other) =
      sweep_same m n t a a name later.known.numbers.past
      (earlier_kept m n t name (same_tasks outside m (entries.End e) may) (low_of m t working) was.earlier)
      (begins_of m n (owner_of name) (ended_calls m e that open_now (owner_of name) other))
      (slot_apart name.task name.slot other) refl was

  -- ---- the slots

  slots_beside : ((s : ℕ) → b.owner ≢ Compile t s) → are_slots_few n t new a ≡ true
  slots_beside other =
      few_as n t old new a alike
      (slots_left m n t old a a later.known (λ key. compiled_stays outside m (entries.End e) key may)
      (λ s. slot_apart t s (other s))
      (λ s k call is compiles.
      let own : call.begin.owner ≡ Compile t s =
      sym (same_owner_is (Compile t s) call.begin.owner
      (and_parts (is_owners (Compile t s) call) (compiles_package call.begin.call) compiles).0) in
      (call, (ended_calls m e that open_now (Compile t s) (other s)).forth k call is own, refl))
      (λ s. refl) f.slots_few)

  slots_by : (owner : Owner) → b.owner ≡ owner → are_slots_few n t new a ≡ true
  slots_by (Instance i) own = slots_beside (λ s same. not_slot s (sym own ∙ same))
    where
      not_slot : (s : ℕ) → Instance i ≡ Compile t s → ⊥
      not_slot s is = absurd cc
  slots_by (Disk x) own = slots_beside (λ s same. not_slot s (sym own ∙ same))
    where
      not_slot : (s : ℕ) → Disk x ≡ Compile t s → ⊥
      not_slot s is = absurd cc
  slots_by (Compile task s) own = by (task == t) refl
    where
      by : (same : Bool) → (task == t) ≡ same → are_slots_few n t new a ≡ true
      by false other =
          slots_beside
          (λ k is. let same : Compile task s ≡ Compile t k = sym own ∙ is in
          let one : task ≡ t = cc in false≢true (sym other ∙ eq-eqb task t one))
      by true same = of (slot_some m h e.n that open_now t s owned)
        where
          owned : b.owner ≡ Compile t s
          owned = own ∙ (λ j. Compile (eqb-true task t same j) s)

          mine : b.task ≡ t
          mine = its_own (Compile t s) (own_slot m h.known t s working) owned

          makes : makes_or_deletes b.call ≡ true
          makes =
              implied (t == t) (makes_or_deletes b.call)
              (sym (λ j. is_call_of_slot t (owned j) b.call)
              ∙ (sym (λ j. where_any (is_slot_call t) (open_now j)) ∙ f.slot_calls e.n)) (eq-eqb t t refl)

          of : (it : Slot) × (m.known.slot t s ≡ Some it) × (fits_slot b.n b.call it ≡ true)
              → are_slots_few n t new a ≡ true
          of (it, there, fits) =
              few_as n t old new a alike
              (few_ended m h.known e that open_now t s owned working
              (slot_below m.known t s
              (sym (λ j. is_item m.known (mine j) (owned j))
              ∙ (and_parts (is_item m.known b.task b.owner) _ (h.known.calls e.n that open_now).of_item).0))
              later.known a a (λ k. refl) (λ key. compiled_stays outside m (entries.End e) key may) (well mine)
              (here mine t s owned) (kind mine) it there fits makes f.slots_few)

  -- ---- all

  pub clean_ended : CleanFacts outside.built n t a
  clean_ended = record {
    all_counted = counted_same t old new a a (ended_count e.answer (m.known.begun e.n) m.known t) alike.goal
        alike.obsolete refl refl f.all_counted;
    left_over = λ name.
        implied_by (is_leftover n.known t name) (is_among same_slot name a.left_over)
        (λ over.
        implied (is_leftover m.known t name) _ (f.left_over name)
        ((onward outside m h.known (entries.End e) follows may t working).leftover name over));
    steps = λ i is. either_steps i (sym (budgeted_as old new i alike) ∙ is) (tells b.owner (Instance i));
    slots_few = slots_by b.owner refl;
    slot_calls = λ k. by k (eqb e.n k);
    sweep = λ name isin. swept name (f.sweep name isin) (tells b.owner (owner_of name));
  }
    where
      by : (k : ℕ) (same : Bool) → where_any (is_slot_call t) (if same then None else m.calls k) ≡ true
      by k true = refl
      by k false = f.slot_calls k
