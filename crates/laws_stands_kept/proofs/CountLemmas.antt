-- Compile machines that are recorded are no more than calls began, after each entry that may be noted.
use Rattle.std.proofs.Common.{◌≡◌, ◌+◌, ◌≤◌, ℕ, Bool, true, false, List, [], ◌∷◌, Option, Some, None, ap, arith}
use Rattle.std.specs.Prelude.{length, if◌then◌else◌}
use Rattle.bosh_base.specs.declared.answer.Answer.{Answer}
use Rattle.bosh_base.specs.declared.call.Call.{Call}
use Rattle.bosh_base.specs.declared.entry.Begin.{Begin}
use Rattle.bosh_base.specs.declared.entry.Entry.{Entry}
use Rattle.bosh_base.specs.declared.entry.Entry.TheVariants as entries
use Rattle.bosh_base.specs.declared.owner.Owner.{Owner}
use Rattle.bosh_base.specs.declared.owner.Owner.TheVariants.{Compile, Disk, Instance}
use Rattle.bosh_history.specs.Calls.{begins, call_ended, ends_of, orphan_after, slot_answered}
use Rattle.bosh_history.specs.Known.{Known, Slot, SlotName}
use Rattle.bosh_history.specs.Learn.{learn}
use Rattle.bosh_history.specs.Moments.{Moment}
use Rattle.bosh_history.specs.Notes.{MayNote, Outside}
use Rattle.bosh_history.specs.Orders.{same_slot, slot_cmp}
use Rattle.bosh_history.specs.Slots.{slot_after}
use Rattle.bosh_history.specs.Words.{without}
use Rattle.laws_facts.proofs.FrameLemmas.{compiled_slots, numbers_done, numbers_end, numbers_updated, slots_done, slots_updated}
use Rattle.laws_stands_machines.proofs.InsertedLemmas.{length_inserted}

-- an item that goes leaves no more
length_without : {A : Type 0} (same : A → A → Bool) (a : A) (xs : List A) → length (without same a xs) ≤ length xs
length_without same a [] = omega arith
length_without same a (x ∷ xs) = by (same a x) (length_without same a xs)
  where
    by : (b : Bool) → length (without same a xs) ≤ length xs
        → length (if b then without same a xs else x ∷ without same a xs) ≤ length (x ∷ xs)
    by true less = omega arith
    by false less = omega arith

begun_machines : (b : Begin) (owner : Owner) (k : Known) → length (begins b owner k).machines ≤ length k.machines + 1
begun_machines b (Instance i) k = omega arith
begun_machines b (Compile t s) k = length_inserted slot_cmp (record { task = t; slot = s }) k.machines
begun_machines b (Disk d) k = omega arith

answered_machines : (t s : ℕ) (it : Option Slot) (k : Known)
    → length (slot_answered t s it k).machines ≤ length k.machines
answered_machines t s (Some it) k = omega arith
answered_machines t s None k = length_without same_slot (record { task = t; slot = s }) k.machines

orphan_machines : (d : ℕ) (call : Call) (answer : Answer) (k : Known)
    → (orphan_after d call answer k).machines ≡ k.machines
orphan_machines d call answer k = grind (arith)

owner_machines : (b : Begin) (answer : Answer) (owner : Owner) (k : Known)
    → length (ends_of b answer owner k).machines ≤ length k.machines
owner_machines b answer (Instance i) k = omega arith
owner_machines b answer (Compile t s) k = answered_machines t s (slot_after b.n b.call answer (k.slot t s)) k
owner_machines b answer (Disk d) k =
    let same : length (orphan_after d b.call answer k).machines ≡ length k.machines =
    ap (λ (xs : List SlotName). length xs) (orphan_machines d b.call answer k) in omega arith

ended_machines : (answer : Answer) (begin : Option Begin) (k : Known)
    → length (call_ended answer begin k).machines ≤ length k.machines
ended_machines answer (Some b) k =
    let same : length (call_ended answer (Some b) k).machines ≡ length (ends_of b answer b.owner k).machines =
    ap (λ (xs : List SlotName). length xs) (compiled_slots b.call answer (ends_of b answer b.owner k)).machines in
    let less : length (ends_of b answer b.owner k).machines ≤ length k.machines = owner_machines b answer b.owner k in
    omega arith
ended_machines answer None k = omega arith

-- as many, and as many calls
no_more : (machines now : List SlotName) (last last_now : ℕ) → length now ≤ length machines → last_now ≡ last
    → length machines ≤ last → length now ≤ last_now
no_more machines now last last_now less same few = omega arith

pub few_after : (outside : Outside) (m : Moment) (e : Entry) → MayNote outside m e
    → length m.known.machines ≤ m.known.last_call
    → length (learn m.known e).machines ≤ (learn m.known e).last_call
few_after outside m (entries.Begin b) may few =
    let more : length (begins b b.owner m.known).machines ≤ length m.known.machines + 1 =
    begun_machines b b.owner m.known in
    let next : b.n ≡ m.known.last_call + 1 = may.number in
    one_more (length (begins b b.owner m.known).machines) (length m.known.machines) m.known.last_call b.n more next few
  where
    one_more : (now machines last n : ℕ) → now ≤ machines + 1 → n ≡ last + 1 → machines ≤ last → now ≤ n
    one_more now machines last n more next few = omega arith
few_after outside m (entries.End e) may few =
    no_more m.known.machines (learn m.known (entries.End e)).machines m.known.last_call
    (learn m.known (entries.End e)).last_call (ended_machines e.answer (m.known.begun e.n) m.known)
    (numbers_end m e.n e.answer).last_call few
few_after outside m (entries.UpdDone u) may few =
    no_more m.known.machines (learn m.known (entries.UpdDone u)).machines m.known.last_call
    (learn m.known (entries.UpdDone u)).last_call
    (same_length (learn m.known (entries.UpdDone u)).machines m.known.machines (slots_updated m u.task u.inst).machines)
    (numbers_updated m u.task u.inst).last_call few
  where
    same_length : (a b : List SlotName) → a ≡ b → length a ≤ length b
    same_length a b same = let e : length a ≡ length b = ap (λ (xs : List SlotName). length xs) same in omega arith
few_after outside m (entries.TaskDone t) may few =
    no_more m.known.machines (learn m.known (entries.TaskDone t)).machines m.known.last_call
    (learn m.known (entries.TaskDone t)).last_call
    (same_length (learn m.known (entries.TaskDone t)).machines m.known.machines (slots_done m t).machines)
    (numbers_done m t).last_call few
  where
    same_length : (a b : List SlotName) → a ≡ b → length a ≤ length b
    same_length a b same = let e : length a ≡ length b = ap (λ (xs : List SlotName). length xs) same in omega arith
few_after outside m (entries.Snapshot s) may few = absurd may
few_after outside m entry may few = few
