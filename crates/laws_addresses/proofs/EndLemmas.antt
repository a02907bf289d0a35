-- Answers, and ends of updates and tasks: the facts on addresses are kept, since makes stay or go.
use Rattle.std.proofs.Common.{◌≡◌, ℕ, Bool, true, false, Option, Some, None, refl, ap, ◌∙◌, inl, inr, arith}
use Rattle.std.specs.Prelude.{◌⊎◌, eqb, if◌then◌else◌}
use Rattle.std.specs.Option.{option_map}
use Rattle.std.proofs.lemmas.Bool.Decides.{eqb_tells}
use Rattle.bosh_base.specs.declared.answer.Answer.{Answer}
use Rattle.bosh_base.specs.declared.call.Call.{Call}
use Rattle.bosh_base.specs.declared.entry.Begin.{Begin}
use Rattle.bosh_base.specs.declared.entry.Entry.{Entry}
use Rattle.bosh_base.specs.declared.entry.Entry.TheVariants as entries
use Rattle.bosh_base.specs.declared.goal.GoalRow.{GoalRow}
use Rattle.bosh_base.specs.declared.inst.Inst.{Inst}
use Rattle.bosh_base.specs.declared.owner.Owner.{Owner}
use Rattle.bosh_base.specs.declared.owner.Owner.TheVariants.{Instance, Compile, Disk}
use Rattle.bosh_base.specs.declared.row.Row.{Row}
use Rattle.bosh_base.specs.declared.task.TaskKind.{TaskKind}
use Rattle.laws_facts.proofs.FrameLemmas.{compiled_rows, compiled_slots, slot_rows, slots_done, slots_updated}
use Rattle.laws_facts.proofs.ListLemmas.{Tells}
use Rattle.laws_facts.proofs.LockLemmas.{is_opening}
use Rattle.laws_facts.specs.Addresses.{Recorded, Machine, dep_of_slot, make_held}
use Rattle.bosh_history.specs.Calls.{call_ended, ends_of, slot_answered}
use Rattle.bosh_history.specs.Known.{Known, Slot, dep_of_task, want_in}
use Rattle.bosh_history.specs.Learn.{learn}
use Rattle.bosh_history.specs.Moments.{Moment, noting}
use Rattle.bosh_history.specs.Notes.{MayNote, Outside}
use Rattle.bosh_history.specs.Slots.{slot_after, slot_told}
use Rattle.bosh_history.specs.Tasks.{settles}
use Rattle.bosh_history.specs.Updates.{update_done}
use Rattle.bosh_history.specs.Words.{at}
use Rattle.bosh_rows.proofs.SameLemmas.{same_inst_tells}
use Rattle.bosh_rows.specs.After.{after, bare}
use Rattle.bosh_rows.specs.Same.{same_inst}
use Rattle.laws_addresses.proofs.BeginLemmas.{SameSlot}
use Rattle.laws_addresses.proofs.FactLemmas.{Comes, ComesFrom, as_was, none_now}
use Rattle.laws_addresses.proofs.WorkLemmas.{LessMade, less_comes, less_work}

-- ---- rows

after_make : (n : ℕ) (call : Call) (answer : Answer) (row : Row) → (after n call answer row).make ≡ row.make
after_make n call answer row = grind (arith)

make_answered : (b : Begin) (answer : Answer) (owner : Owner) (k : Known) (i : Inst)
    → ((ends_of b answer owner k).row i).make ≡ (k.row i).make
make_answered b answer (Instance j) k i =
    grind (arith, same_inst_tells j i, after_make b.n b.call answer (k.row j))
make_answered b answer (Compile t s) k i =
    ap (λ (row : Inst → Row). (row i).make) (slot_rows t s (slot_after b.n b.call answer (k.slot t s)) k)
make_answered b answer (Disk d) k i = grind (arith)

make_ended : (answer : Answer) (b : Option Begin) (k : Known) (i : Inst)
    → ((call_ended answer b k).row i).make ≡ (k.row i).make
make_ended answer (Some b) k i =
    ap (λ (row : Inst → Row). (row i).make) (compiled_rows b.call answer (ends_of b answer b.owner k))
    ∙ make_answered b answer b.owner k i
make_ended answer None k i = refl

make_updated : (want : Option GoalRow) (j : Inst) (k : Known) (i : Inst)
    → ((update_done want j k).row i).make ≡ (k.row i).make
make_updated (Some want) j k i = grind (arith, same_inst_tells j i)
make_updated None j k i = refl

make_settled : (kind : TaskKind) (k : Known) (t : ℕ) (i : Inst)
    → ((settles kind (k.task t).goal (dep_of_task k t) k).row i).make ≡ (k.row i).make
make_settled kind k t i = grind (arith)

-- ---- compile machines

-- what is recorded of it has its make and its deployment, or nothing is
abbrev pub SlotEnds : Option Slot → Option Slot → Type 0
SlotEnds old new = SameSlot old new ⊎ (new ≡ None)

slot_told_as : (n : ℕ) (call : Call) (answer : Answer) (slot : Option Slot)
    → SlotEnds slot (slot_after n call answer slot)
slot_told_as n call answer (Some it) = by (slot_told n call answer it) refl
  where
    by : (new : Option Slot) → slot_told n call answer it ≡ new → SlotEnds (Some it) (slot_told n call answer it)
    by (Some told) is = inl (record {
      make =
          ap (option_map (λ slot. slot.make)) is ∙ (let same : told.make ≡ it.make = grind (arith, is) in ap Some same);
      dep = ap dep_of_slot is ∙ grind (arith, is);
    })
    by None is = inr is
slot_told_as n call answer None = inr refl

same_slot_as : (old new : Option Slot) → new ≡ old → SlotEnds old new
same_slot_as old new same = inl (record { make = ap (option_map (λ it. it.make)) same; dep = ap dep_of_slot same })

slot_ends_as : (old new now : Option Slot) → now ≡ new → SlotEnds old new → SlotEnds old now
slot_ends_as old new now same (inl is) = inl (record {
  make = ap (option_map (λ it. it.make)) same ∙ is.make;
  dep = ap dep_of_slot same ∙ is.dep;
})
slot_ends_as old new now same (inr none) = inr (same ∙ none)

slot_put : (task slot : ℕ) (it : Option Slot) (k : Known) → (slot_answered task slot it k).slot ≡
    at eqb task (at eqb slot it (k.slot task)) k.slot
slot_put task slot (Some it) k = refl
slot_put task slot None k = refl

slot_ends : (b : Begin) (answer : Answer) (owner : Owner) (k : Known) (t s : ℕ)
    → SlotEnds (k.slot t s) ((ends_of b answer owner k).slot t s)
slot_ends b answer (Instance i) k t s = same_slot_as (k.slot t s) (k.slot t s) refl
slot_ends b answer (Compile task slot) k t s = by (eqb_tells task t) (eqb_tells slot s)
  where
    now : (ends_of b answer (Compile task slot) k).slot t s ≡
        at eqb task (at eqb slot (slot_after b.n b.call answer (k.slot task slot)) (k.slot task)) k.slot t s
    now = λ i. slot_put task slot (slot_after b.n b.call answer (k.slot task slot)) k i t s

    by : Tells eqb task t → Tells eqb slot s
        → SlotEnds (k.slot t s) ((ends_of b answer (Compile task slot) k).slot t s)
    by (inl same) (inl also) =
        slot_ends_as (k.slot t s) (slot_after b.n b.call answer (k.slot t s))
        ((ends_of b answer (Compile task slot) k).slot t s)
        (now ∙ grind (arith, same, also)) (slot_told_as b.n b.call answer (k.slot t s))
    by (inl same) (inr apart) =
        same_slot_as (k.slot t s) ((ends_of b answer (Compile task slot) k).slot t s)
        (now ∙ grind (arith, same, apart))
    by (inr apart) other =
        same_slot_as (k.slot t s) ((ends_of b answer (Compile task slot) k).slot t s) (now ∙ grind (arith, apart))
slot_ends b answer (Disk d) k t s =
    same_slot_as (k.slot t s) ((ends_of b answer (Disk d) k).slot t s) (grind (arith))

slot_ended : (answer : Answer) (b : Option Begin) (k : Known) (t s : ℕ)
    → SlotEnds (k.slot t s) ((call_ended answer b k).slot t s)
slot_ended answer (Some b) k t s =
    slot_ends_as (k.slot t s) ((ends_of b answer b.owner k).slot t s) ((call_ended answer (Some b) k).slot t s)
    (λ i. (compiled_slots b.call answer (ends_of b answer b.owner k)).slot i t s) (slot_ends b answer b.owner k t s)
slot_ended answer None k t s = same_slot_as (k.slot t s) (k.slot t s) refl

-- ---- entries

abbrev pub is_beginning : Entry → Bool
is_beginning (entries.Begin b) = true
is_beginning entry = false

rows_less : (outside : Outside) (m : Moment) (e : Entry) → MayNote outside m e → is_opening e ≡ false
    → is_beginning e ≡ false
    → (i : Inst)
    → (make_held (noting m e) (Recorded i) ≡ make_held m (Recorded i)) ⊎ (make_held (noting m e) (Recorded i) ≡ None)
rows_less outside m (entries.Begin b) may none too i = absurd cc
rows_less outside m (entries.TaskOpen o) may none too i = absurd cc
rows_less outside m (entries.End e) may none too i = inl (make_ended e.answer (m.known.begun e.n) m.known i)
rows_less outside m (entries.UpdDone u) may none too i =
    inl (make_updated (want_in (m.known.task u.task).goal u.inst) u.inst m.known i)
rows_less outside m (entries.Gone u) may none too i = by (same_inst_tells u.inst i)
  where
    by : Tells same_inst u.inst i
        → ((at same_inst u.inst (bare u.inst) m.known.row i).make ≡ (m.known.row i).make)
        ⊎ ((at same_inst u.inst (bare u.inst) m.known.row i).make ≡ None)
    by (inl same) = inr (λ j. (if same.0 j then bare u.inst else m.known.row i).make)
    by (inr apart) = inl (λ j. (if apart.0 j then bare u.inst else m.known.row i).make)
rows_less outside m (entries.TaskDone t) may none too i = inl (make_settled (m.known.task t).kind m.known t i)
rows_less outside m (entries.Snapshot s) may none too i = absurd may
rows_less outside m entry may none too i = inl refl

slots_less : (outside : Outside) (m : Moment) (e : Entry) → MayNote outside m e → is_opening e ≡ false
    → is_beginning e ≡ false → (t s : ℕ) → SlotEnds (m.known.slot t s) ((learn m.known e).slot t s)
slots_less outside m (entries.Begin b) may none too t s = absurd cc
slots_less outside m (entries.TaskOpen o) may none too t s = absurd cc
slots_less outside m (entries.End e) may none too t s = slot_ended e.answer (m.known.begun e.n) m.known t s
slots_less outside m (entries.UpdDone u) may none too t s =
    same_slot_as (m.known.slot t s) ((learn m.known (entries.UpdDone u)).slot t s)
    (λ i. (slots_updated m u.task u.inst).slot i t s)
slots_less outside m (entries.TaskDone task) may none too t s =
    same_slot_as (m.known.slot t s) ((learn m.known (entries.TaskDone task)).slot t s)
    (λ i. (slots_done m task).slot i t s)
slots_less outside m (entries.Snapshot it) may none too t s = absurd may
slots_less outside m entry may none too t s = same_slot_as (m.known.slot t s) (m.known.slot t s) refl

machine_less : (m : Moment) (e : Entry) (t s : ℕ) → SlotEnds (m.known.slot t s) ((learn m.known e).slot t s)
    → ComesFrom m (noting m e) (Machine t s) (Machine t s)
machine_less m e t s (inl same) = as_was m (noting m e) (Machine t s) (Machine t s) same.make same.dep
machine_less m e t s (inr none) =
    none_now m (noting m e) (Machine t s) (Machine t s) (ap (option_map (λ it. it.make)) none)

pub less_made : (outside : Outside) (m : Moment) (e : Entry) → MayNote outside m e → is_opening e ≡ false
    → is_beginning e ≡ false → LessMade m (noting m e)
less_made outside m e may none too = record {
  rows = rows_less outside m e may none too;
  slots = λ t s. machine_less m e t s (slots_less outside m e may none too t s);
}

pub ended_comes : (outside : Outside) (m : Moment) (e : Entry) → MayNote outside m e → is_opening e ≡ false
    → is_beginning e ≡ false → Comes m (noting m e)
ended_comes outside m e may none too =
    less_comes m (noting m e) (less_work outside m e may none) (less_made outside m e may none too)
