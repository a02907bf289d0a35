-- The slots of a task have few calls: when one begins, and when one is answered.
use Rattle.std.proofs.Common.{◌≡◌, ◌≢◌, ◌∙◌, ℕ, ◌+◌, ◌≤◌, ◌<◌, Bool, true, false, Option, Some, None, []}
use Rattle.std.proofs.Common.{arith, refl, subst, sym}
use Rattle.std.specs.Prelude.{◌||◌, ◌==◌, count_by, length, nat_lt, not}
use Rattle.std.specs.Option.{option_map}
use Rattle.std.proofs.lemmas.Bool.{and_from, and_parts, eq-eqb, eqb-true, false≢true, ltb-true, or_right}
use Rattle.bosh_base.specs.declared.call.Call.{Call}
use Rattle.bosh_base.specs.declared.call.Call.TheVariants as calls
use Rattle.bosh_base.specs.declared.entry.Begin.{Begin}
use Rattle.bosh_base.specs.declared.entry.Entry.TheVariants as entries
use Rattle.bosh_base.specs.declared.key.Key.{Key}
use Rattle.bosh_base.specs.declared.owner.Owner.{Owner}
use Rattle.bosh_base.specs.declared.owner.Owner.TheVariants.{Compile}
use Rattle.bosh_compile.proofs.KeyLemmas.{same_key_decides}
use Rattle.bosh_history.specs.Calls.{begins, key_for}
use Rattle.bosh_history.specs.Items.{is_item, is_leftover, is_slot_left, phase_of, slots_of}
use Rattle.bosh_history.specs.Known.{Known, Slot, Task, dep_of_task}
use Rattle.bosh_history.specs.Moments.{Moment, noting}
use Rattle.bosh_history.specs.Notes.{Begins}
use Rattle.bosh_history.specs.Slots.{in_doubt, is_compiled, is_ready, keys_of, may_take, slot_begun}
use Rattle.bosh_history.specs.Steps.{call_now, compile_make, compiling, is_idle, is_owners}
use Rattle.bosh_history.specs.Words.{holds}
use Rattle.bosh_rows.specs.Same.{same_owner}
use Rattle.laws_cloud.proofs.TellLemmas.{same_owner_itself}
use Rattle.laws_counted.proofs.CallFrames.{begun_forth, begun_now}
use Rattle.laws_counted.proofs.SlotFacts.{Grows, KeepsCompilations, compiles_by, compiles_is, compiles_on}
use Rattle.laws_counted.proofs.SlotFacts.{held_by_slots}
use Rattle.laws_counted.proofs.SlotFacts.{most, most_as, most_compiled, most_deleted, most_kept, most_made, most_some}
use Rattle.laws_counted.proofs.SlotFacts.{past_low, slots_step}
use Rattle.laws_counts.specs.Counts.{are_slots_few, compiles_now, compiles_package, is_compiled_for}
use Rattle.laws_counts.specs.Counts.{is_past}
use Rattle.laws_counts.specs.Courses.{Account}
use Rattle.laws_facts.proofs.CallLemmas.{none_open}
use Rattle.laws_facts.specs.CompileMachines.{is_being_deleted, is_for}
use Rattle.laws_facts.specs.KnownFacts.{KnownFacts}
use Rattle.laws_items.proofs.ListLemmas.{find_in}
use Rattle.laws_items.proofs.OnwardLemmas.{slot_by}
use Rattle.laws_items.proofs.OwnerLemmas.{same_owner_is}
use Rattle.laws_items.proofs.PhaseLemmas.{IsLeft, of_item}
use Rattle.laws_items.proofs.SlotCalls.{SlotCall, compiles, creates, deletes, finds, looks, slot_call}
use Rattle.laws_items.proofs.SlotFrames.{begun_apart, begun_own}

-- an own slot that is an item is one of the goal's
pub slot_below : (k : Known) (t s : ℕ) → is_item k t (Compile t s) ≡ true → s < length (slots_of (k.task t).goal)
slot_below k t s item = by (is_slot_left k t s) refl (of_item k t (Compile t s) item)
  where
    by : (left : Bool) → is_slot_left k t s ≡ left → (p : ℕ) × IsLeft k t (Compile t s) p
        → s < length (slots_of (k.task t).goal)
    by true left it = ltb-true s (length (slots_of (k.task t).goal)) (and_parts (nat_lt s _) _ left).0
    by false none it =
        let nothing : phase_of k t (Compile t s) ≡ None =
        λ j. slot_by (eq-eqb t t refl j) (none j) (is_leftover k t (record { task = t; slot = s })) in
        let some : phase_of k t (Compile t s) ≡ Some it.0 = it.1.phase in absurd cc

pub other_slot : (t s k : ℕ) → (s == k) ≡ false → Compile t s ≢ Compile t k
other_slot t s k other same = let one : s ≡ k = cc in false≢true (sym other ∙ eq-eqb s k one)

-- ---- a call of a slot begins

module _ (m : Moment) (h : KnownFacts m) (b : Begin) (may : Begins m b)
    (later : KnownFacts (noting m (entries.Begin b))) (t s : ℕ) (own : b.owner ≡ Compile t s) (mine : b.task ≡ t)
    (a after : Account) (made : after.made (Compile t s) ≡ a.made (Compile t s) + 1)
    (made_others : (k : ℕ) → (s == k) ≡ false → after.made (Compile t k) ≡ a.made (Compile t k))
    (grows : Grows m.known (noting m (entries.Begin b)).known) where
  abbrev n : Moment
  n = noting m (entries.Begin b)

  abbrev task : Task
  task = m.known.task t

  keeps : (owner : Owner) → KeepsCompilations m n owner
  keeps owner k call is busy = (call, begun_forth m h b may k call is, refl)

  slot_now : n.known.slot t s ≡ slot_begun b.n b.call (dep_of_task m.known t) (key_for m.known t s) (m.known.slot t s)
  slot_now = (λ j. (begins b (own j) m.known).slot t s) ∙ begun_own b m.known t s

  slot_other : (k : ℕ) → (s == k) ≡ false → n.known.slot t k ≡ m.known.slot t k
  slot_other k other =
      begun_apart b b.owner m.known t k (λ same. other_slot t s k other (sym own ∙ same))

  the_call : SlotCall m t t s b.call
  the_call = slot_call m t t s b.call (sym (λ j. call_now m (mine j) (own j)) ∙ may.is_call)

  below : s < length (slots_of task.goal)
  below = slot_below m.known t s (sym (λ j. is_item m.known (mine j) (own j)) ∙ may.is_item)

  -- the slot may have had one call more, and holds no key that is compiled
  stepped : most m t s (m.known.slot t s) + 1 ≤ most n t s (n.known.slot t s)
      → ((key : Key) → is_compiled m.known key ≡ true → holds (is_for (Some key)) (n.known.slot t s) ≡ true
      → holds (is_for (Some key)) (m.known.slot t s) ≡ true)
      → are_slots_few m t task a ≡ true → are_slots_few n t task after ≡ true
  stepped up held is =
      slots_step m n t task a after s 1 1 0 0 below
      (λ k other. subst (λ (x : ℕ). x ≤ a.made (Compile t k)) (sym (made_others k other)) (omega arith))
      (subst (λ (x : ℕ). x ≤ a.made (Compile t s) + 1) (sym made) (omega arith))
      (λ k other. most_as m n t k grows (slot_other k other) (compiles_on m n later (Compile t k) (keeps
      (Compile t k))))
      (omega (arith, up))
      (let keys : count_by (is_past m.known t task) (keys_of task.goal)
      ≤ count_by (is_past n.known t task) (keys_of task.goal) =
      past_low m n t task grows (held_by_slots m n t task by_slot) in
      omega (arith, keys))
      (omega arith) is
    where
      by_slot : (key : Key) (k : ℕ) → is_compiled m.known key ≡ true
          → holds (is_for (Some key)) (n.known.slot t k) ≡ true → holds (is_for (Some key)) (m.known.slot t k) ≡ true
      by_slot key k compiled now = at (s == k) refl
        where
          at : (same : Bool) → (s == k) ≡ same → holds (is_for (Some key)) (m.known.slot t k) ≡ true
          at true same =
              subst (λ (x : ℕ). holds (is_for (Some key)) (m.known.slot t x) ≡ true) (eqb-true s k same)
              (held key compiled
              (subst (λ (x : ℕ). holds (is_for (Some key)) (n.known.slot t x) ≡ true) (sym (eqb-true s k same)) now))
          at false other = sym (λ j. holds (is_for (Some key)) (slot_other k other j)) ∙ now

  -- it has no call open, so that it compiles nothing
  rests : compiles_now m (Compile t s) ≡ false
  rests = by (compiles_now m (Compile t s)) refl
    where
      by : (busy : Bool) → compiles_now m (Compile t s) ≡ busy → busy ≡ false
      by true busy =
          let (k, call, at, making) = compiles_is m (Compile t s) busy in
          absurd (none_open m (Compile t s) h.numbers.past ((λ j. is_idle m (sym own j)) ∙ may.is_idle) k call at
          (sym (same_owner_is (Compile t s) call.begin.owner
          (and_parts (is_owners (Compile t s) call) (compiles_package call.begin.call) making).0)))
      by false none = refl

  pub slots_begun : are_slots_few m t task a ≡ true → are_slots_few n t task after ≡ true
  slots_begun = by the_call
    where
      now_is : (call : Call) → call ≡ b.call → (it : Option Slot) → m.known.slot t s ≡ it
          → n.known.slot t s ≡ slot_begun b.n call (dep_of_task m.known t) (key_for m.known t s) it
      now_is call is it at =
          slot_now ∙ (λ j. slot_begun b.n (sym is j) (dep_of_task m.known t) (key_for m.known t s) (at j))

      by : SlotCall m t t s b.call → are_slots_few m t task a ≡ true → are_slots_few n t task after ≡ true
      by (creates work make same none next nth_is is) =
          stepped
          (subst (λ (x : ℕ). x + 1 ≤ most n t s (n.known.slot t s)) (λ j. most m t s (sym none j))
          (subst (λ (slot : Option Slot). 0 + 1 ≤ most n t s slot) (sym new)
          (let some : 1 ≤ most n t s (Some made_slot) = most_some n t s made_slot in omega (arith, some))))
          (λ key compiled held. absurd (fresh key compiled (sym (λ j. holds (is_for (Some key)) (new j)) ∙ held)))
        where
          made_slot : Slot
          made_slot =
              in_doubt b.n (calls.CreateVm (compile_make work.key make) []) (record {
                dep = dep_of_task m.known t;
                make = compile_make work.key make;
                vm = None;
                doubt = None;
                key = Some work.key;
              })

          new : n.known.slot t s ≡ Some made_slot
          new =
              now_is (calls.CreateVm (compile_make work.key make) []) is None none
              ∙ (λ j. slot_begun b.n (calls.CreateVm (compile_make work.key make) []) (dep_of_task m.known t)
              (option_map (λ it. it.key) (next j)) None)

          fresh : (key : Key) → is_compiled m.known key ≡ true → holds (is_for (Some key)) (Some made_slot) ≡ true → ⊥
          fresh key compiled held =
              let not_yet : not (is_compiled m.known work.key) ≡ true =
              (and_parts (not (is_compiled m.known work.key)) _
              (and_parts (is_ready m.known work) _
              (find_in (may_take m.known t s) work (keys_of task.goal) next).1).1).0 in
              let one : key ≡ work.key = (same_key_decides key work.key).0 held in
              false≢true (sym (λ j. not (compiled j)) ∙ ((λ j. not (is_compiled m.known (one j))) ∙ not_yet))
      by (deletes it vm at has none done is) =
          stepped
          (subst (λ (slot : Option Slot). most m t s slot + 1 ≤ most n t s (n.known.slot t s)) (sym at)
          (subst (λ (slot : Option Slot). most m t s (Some it) + 1 ≤ most n t s slot) (sym new)
          (subst (λ (x : ℕ). most m t s (Some it) + 1 ≤ x)
          (sym (most_deleted n t s (in_doubt b.n (calls.DeleteVm vm.vm) it) refl))
          (let low : most m t s (Some it) ≤ 2 = most_kept m t s it (λ j. is_being_deleted (record it {
            doubt =
                none j;
          })) in
          omega (arith, low)))))
          (λ key compiled held.
          (λ j. holds (is_for (Some key)) (at j)) ∙ (sym (λ j. holds (is_for (Some key)) (new j)) ∙ held))
        where
          new : n.known.slot t s ≡ Some (in_doubt b.n (calls.DeleteVm vm.vm) it)
          new = now_is (calls.DeleteVm vm.vm) is (Some it) at
      by (compiles it vm key work same at has none keyed fresh free of is) =
          stepped
          (subst (λ (slot : Option Slot). most m t s slot + 1 ≤ most n t s (n.known.slot t s)) (sym at)
          (subst (λ (slot : Option Slot). most m t s (Some it) + 1 ≤ most n t s slot) (sym new)
          (subst (λ (x : ℕ). x + 1 ≤ most n t s (Some it)) (sym (most_made m t s it kept idle))
          (subst (λ (x : ℕ). 1 + 1 ≤ x) (sym (most_compiled n t s it kept busy)) (omega arith)))))
          (λ key compiled held.
          (λ j. holds (is_for (Some key)) (at j)) ∙ (sym (λ j. holds (is_for (Some key)) (new j)) ∙ held))
        where
          the : Call
          the = compiling m.known vm.vm work

          new : n.known.slot t s ≡ Some it
          new = now_is the is (Some it) at

          kept : is_being_deleted it ≡ false
          kept = λ j. is_being_deleted (record it { doubt = none j })

          idle : is_compiled_for m t s it ≡ false
          idle =
              (λ j. holds (is_compiled m.known) (keyed j) || compiles_now m (Compile t s))
              ∙ (λ j. fresh j || rests j)

          busy : is_compiled_for n t s it ≡ true
          busy =
              or_right (holds (is_compiled n.known) it.key) (compiles_now n (Compile t s))
              (compiles_by n later (Compile t s) b.n (record { begin = b; did = None }) (begun_now m b)
              (and_from (same_owner (Compile t s) b.owner) (compiles_package b.call)
              ((λ j. same_owner (Compile t s) (own j)) ∙ same_owner_itself (Compile t s))
              (λ j. compiles_package (sym is j))))
      by (finds it doubt other at has doubted is) = absurd (false≢true (sym other ∙ eq-eqb t t refl))
      by (looks it vm doubt other at has doubted is) = absurd (false≢true (sym other ∙ eq-eqb t t refl))
