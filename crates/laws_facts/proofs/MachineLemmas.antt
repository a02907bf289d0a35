-- Recorded compile machines: that they are listed, in order, is kept by each move.
use Rattle.std.proofs.Common.{◌≡◌, ℕ, Bool, true, false, ◌==◌, Option, Some, None, List, [], refl, ap, ◌∙◌, inl, inr, arith}
use Rattle.std.specs.Prelude.{eqb, is_some, if◌then◌else◌}
use Rattle.std.specs.Cmp.{IsTotalOrder}
use Rattle.std.specs.Option.{option_and_then, option_map}
use Rattle.std.specs.Ordering.{nat_cmp}
use Rattle.std.specs.declared.cmp.Ordering.TheVariants.{Equal}
use Rattle.std.proofs.lemmas.Bool.Decides.{eqb_tells}
use Rattle.std.proofs.lemmas.Cmp.{nat_cmp_total, on_total, then_total}
use Rattle.std.proofs.lemmas.Map.Lookups.{exact_unsigned}
use Rattle.bosh_base.specs.declared.answer.Answer.{Answer}
use Rattle.bosh_base.specs.declared.call.Call.{Call}
use Rattle.bosh_base.specs.declared.call.Call.TheVariants.{CreateVm, DeleteVm}
use Rattle.bosh_base.specs.declared.entry.Begin.{Begin}
use Rattle.bosh_base.specs.declared.entry.Entry.{Entry}
use Rattle.bosh_base.specs.declared.entry.Entry.TheVariants as entries
use Rattle.bosh_base.specs.declared.key.Key.{Key}
use Rattle.bosh_base.specs.declared.key.KeyWork.{KeyWork}
use Rattle.bosh_base.specs.declared.make.Make.{Make}
use Rattle.bosh_base.specs.declared.moves.Move.{Move}
use Rattle.bosh_base.specs.declared.owner.Owner.{Owner}
use Rattle.bosh_base.specs.declared.owner.Owner.TheVariants.{Instance, Compile, Disk}
use Rattle.laws_facts.proofs.FrameLemmas.{compiled_slots, slots_done, slots_updated}
use Rattle.laws_facts.proofs.InstanceLemmas.{then_equal}
use Rattle.laws_facts.proofs.ListLemmas.{Tells, among_without}
use Rattle.laws_facts.proofs.MoveLemmas.{by_note}
use Rattle.laws_facts.proofs.OrderLemmas.{among_inserted, ascending_inserted, ascending_without}
use Rattle.laws_facts.specs.CallFacts.{named}
use Rattle.laws_facts.specs.KnownFacts.{KnownFacts}
use Rattle.laws_facts.specs.Kept.{AreMachinesInOrder, AreMachinesListed}
use Rattle.laws_row_facts.specs.Words.{are_ascending}
use Rattle.bosh_history.specs.Calls.{begins, call_ended, compiles, ends_of, key_for, slot_answered}
use Rattle.bosh_history.specs.Items.{slots_of}
use Rattle.bosh_history.specs.Known.{Known, Slot, SlotName, dep_of_task}
use Rattle.bosh_history.specs.Learn.{learn}
use Rattle.bosh_history.specs.Moments.{Moment, later}
use Rattle.bosh_history.specs.Notes.{MayNote, Outside}
use Rattle.bosh_history.specs.Orders.{same_slot, slot_cmp}
use Rattle.bosh_history.specs.Permitted.{IsPermitted}
use Rattle.bosh_history.specs.Slots.{next_key, slot_after, slot_begun}
use Rattle.bosh_history.specs.Steps.{call_now, compile_make, creation, nth, own_slot, sweep_call}
use Rattle.bosh_history.specs.Words.{is_among}
use Rattle.bosh_rows.specs.Standing.{same_truth}

-- ---- the order of names

slot_total : IsTotalOrder slot_cmp
slot_total =
    then_total (on_total (λ (it : SlotName). it.task) nat_cmp_total)
    (on_total (λ (it : SlotName). it.slot) nat_cmp_total)

slot_equal : (a b : SlotName) → slot_cmp a b ≡ Equal → a ≡ b
slot_equal a b is =
    let parts : (nat_cmp a.task b.task ≡ Equal) × (nat_cmp a.slot b.slot ≡ Equal) =
    then_equal (nat_cmp a.task b.task) (nat_cmp a.slot b.slot) is in
    let task : a.task ≡ b.task = exact_unsigned a.task b.task parts.0 in
    let slot : a.slot ≡ b.slot = exact_unsigned a.slot b.slot parts.1 in
    λ i. record { task = task i; slot = slot i }

pub slot_tells : (a b : SlotName) → Tells same_slot a b
slot_tells a b = by (eqb_tells a.task b.task) (eqb_tells a.slot b.slot)
  where
    by : Tells eqb a.task b.task → Tells eqb a.slot b.slot → Tells same_slot a b
    by (inl task) (inl slot) = inl (grind (arith, task, slot), (λ i. record { task = task.1 i; slot = slot.1 i }))
    by (inl task) (inr slot) = inr (grind (arith, task, slot), (λ is. slot.1 (ap (λ (it : SlotName). it.slot) is)))
    by (inr task) slot = inr (grind (arith, task), (λ is. task.1 (ap (λ (it : SlotName). it.task) is)))

-- ---- a call of a compile machine begins

-- the first call makes it
creates_first : (k : Known) (t s : ℕ) (call : Call) → creation k t s ≡ Some call
    → (make : Make) × (call ≡ CreateVm make [])
creates_first k t s call is = by (next_key k t s) is
  where
    by_make : (work : KeyWork) (make : Option Make)
        → option_map (λ make. CreateVm (compile_make work.key make) []) make ≡ Some call
        → (make : Make) × (call ≡ CreateVm make [])
    by_make work (Some make) now = (compile_make work.key make, grind (arith, now))
    by_make work None now = absurd cc

    by : (work : Option KeyWork)
        → option_and_then
        (λ work. option_map (λ make. CreateVm (compile_make work.key make) [])
        (nth s (slots_of (k.task t).goal))) work ≡ Some call
        → (make : Make) × (call ≡ CreateVm make [])
    by (Some work) now = by_make work (nth s (slots_of (k.task t).goal)) now
    by None now = absurd cc

begun_old : (n : ℕ) (call : Call) (dep : List ℕ) (key : Option Key) (it : Slot)
    → is_some (slot_begun n call dep key (Some it)) ≡ true
begun_old n (CreateVm make disks) dep key it = refl
begun_old n (DeleteVm vm) dep key it = refl
begun_old n call dep key it = refl

-- it is recorded from its first call on
begun_some : (m : Moment) (b : Begin) (t s : ℕ) → call_now m b.task (Compile t s) ≡ Some b.call
    → is_some (slot_begun b.n b.call (dep_of_task m.known t) (key_for m.known t s) (m.known.slot t s)) ≡ true
begun_some m b t s is = by (m.known.slot t s) (t == b.task) is
  where
    by : (slot : Option Slot) (own : Bool) → (if own then own_slot m b.task s slot else sweep_call slot) ≡ Some b.call
        → is_some (slot_begun b.n b.call (dep_of_task m.known t) (key_for m.known t s) slot) ≡ true
    by (Some it) own now = begun_old b.n b.call (dep_of_task m.known t) (key_for m.known t s) it
    by None true now =
        let made : (make : Make) × (b.call ≡ CreateVm make []) = creates_first m.known b.task s b.call now in
        ap (λ call. is_some (slot_begun b.n call (dep_of_task m.known t) (key_for m.known t s) None)) made.1
    by None false now = absurd cc

listed_begin : (m : Moment) (b : Begin) (owner : Owner) → call_now m b.task owner ≡ Some b.call
    → AreMachinesListed m.known
    → AreMachinesListed (begins b owner m.known)
listed_begin m b (Instance i) is has t s = has t s
listed_begin m b (Compile task slot) is has t s =
    grind (
      arith,
      eqb_tells task t,
      eqb_tells slot s,
      slot_tells (named t s) (named task slot),
      has t s,
      among_inserted slot_cmp slot_total same_slot slot_tells slot_equal (named t s) (named task slot) m.known.machines,
      begun_some m b task slot is,
    )
listed_begin m b (Disk d) is has t s = has t s

-- ---- a call of a compile machine is answered

listed_slot : (k : Known) (task slot : ℕ) (it : Option Slot) → AreMachinesListed k
    → (is_some it ≡ true → is_some (k.slot task slot) ≡ true) → AreMachinesListed (slot_answered task slot it k)
listed_slot k task slot (Some it) has was t s =
    grind (arith, eqb_tells task t, eqb_tells slot s, has t s, was refl)
listed_slot k task slot None has was t s =
    grind (
      arith,
      eqb_tells task t,
      eqb_tells slot s,
      slot_tells (named task slot) (named t s),
      has t s,
      among_without same_slot slot_tells (named t s) (named task slot) k.machines,
    )

was_there : (n : ℕ) (call : Call) (answer : Answer) (slot : Option Slot)
    → is_some (slot_after n call answer slot) ≡ true
    → is_some slot ≡ true
was_there n call answer (Some it) there = refl
was_there n call answer None there = there

listed_answered : (b : Begin) (answer : Answer) (owner : Owner) (k : Known) → AreMachinesListed k
    → AreMachinesListed (ends_of b answer owner k)
listed_answered b answer (Instance i) k has t s = has t s
listed_answered b answer (Compile task slot) k has t s =
    listed_slot k task slot (slot_after b.n b.call answer (k.slot task slot)) has
    (was_there b.n b.call answer (k.slot task slot)) t s
listed_answered b answer (Disk d) k has t s = grind (arith, has t s)

-- ---- entries

listed_same : (old new : Known) → new.machines ≡ old.machines → new.slot ≡ old.slot → AreMachinesListed old
    → AreMachinesListed new
listed_same old new machines slot has t s =
    (λ i. same_truth (is_among same_slot (named t s) (machines i)) (is_some (slot i t s))) ∙ has t s

listed_ended : (answer : Answer) (b : Option Begin) (k : Known) → AreMachinesListed k
    → AreMachinesListed (call_ended answer b k)
listed_ended answer (Some b) k has t s =
    listed_same (ends_of b answer b.owner k) (compiles b.call answer (ends_of b answer b.owner k))
    (compiled_slots b.call answer (ends_of b answer b.owner k)).machines
    (compiled_slots b.call answer (ends_of b answer b.owner k)).slot (listed_answered b answer b.owner k has) t s
listed_ended answer None k has t s = has t s

listed_note : (outside : Outside) (m : Moment) (e : Entry) → MayNote outside m e → AreMachinesListed m.known
    → AreMachinesListed (learn m.known e)
listed_note outside m (entries.Begin b) may has t s = listed_begin m b b.owner may.is_call has t s
listed_note outside m (entries.End e) may has t s = listed_ended e.answer (m.known.begun e.n) m.known has t s
listed_note outside m (entries.UpdDone u) may has t s =
    listed_same m.known (learn m.known (entries.UpdDone u)) (slots_updated m u.task u.inst).machines
    (slots_updated m u.task u.inst).slot has t s
listed_note outside m (entries.TaskDone task) may has t s =
    listed_same m.known (learn m.known (entries.TaskDone task)) (slots_done m task).machines
    (slots_done m task).slot has t s
listed_note outside m (entries.Snapshot s) may has t slot = absurd may
listed_note outside m entry may has t s = has t s

pub listed_kept : (outside : Outside) (m : Moment) (move : Move) → IsPermitted outside m move
    → KnownFacts m → AreMachinesListed (later m move).known
listed_kept outside m move may h =
    by_note outside AreMachinesListed m (λ e also. listed_note outside m e also h.lists.machine_listed)
    h.lists.machine_listed move may

-- ---- in order

order_answered : (b : Begin) (answer : Answer) (owner : Owner) (k : Known) → AreMachinesInOrder k
    → AreMachinesInOrder (ends_of b answer owner k)
order_answered b answer (Instance i) k order = order
order_answered b answer (Compile t s) k order = by (slot_after b.n b.call answer (k.slot t s))
  where
    by : (it : Option Slot) → AreMachinesInOrder (slot_answered t s it k)
    by (Some it) = order
    by None = ascending_without slot_cmp slot_total same_slot slot_tells slot_equal (named t s) k.machines order
order_answered b answer (Disk d) k order = grind (arith, order)

order_note : (outside : Outside) (m : Moment) (e : Entry) → MayNote outside m e → AreMachinesInOrder m.known
    → AreMachinesInOrder (learn m.known e)
order_note outside m (entries.Begin b) may order = by b.owner
  where
    by : (owner : Owner) → AreMachinesInOrder (begins b owner m.known)
    by (Instance i) = order
    by (Compile t s) = ascending_inserted slot_cmp slot_total same_slot slot_tells slot_equal
        (named t s) m.known.machines order
    by (Disk d) = order
order_note outside m (entries.End e) may order = by (m.known.begun e.n)
  where
    by : (b : Option Begin) → AreMachinesInOrder (call_ended e.answer b m.known)
    by (Some b) =
        ap (are_ascending slot_cmp) (compiled_slots b.call e.answer (ends_of b e.answer b.owner m.known)).machines
        ∙ order_answered b e.answer b.owner m.known order
    by None = order
order_note outside m (entries.UpdDone u) may order =
    ap (are_ascending slot_cmp) (slots_updated m u.task u.inst).machines ∙ order
order_note outside m (entries.TaskDone t) may order = ap (are_ascending slot_cmp) (slots_done m t).machines ∙ order
order_note outside m (entries.Snapshot s) may order = absurd may
order_note outside m entry may order = order

pub order_kept : (outside : Outside) (m : Moment) (move : Move) → IsPermitted outside m move
    → KnownFacts m → AreMachinesInOrder (later m move).known
order_kept outside m move may h =
    by_note outside AreMachinesInOrder m (λ e also. order_note outside m e also h.lists.machines_in_order)
    h.lists.machines_in_order move may
