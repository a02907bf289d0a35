-- No two compile machines of a task that works are for one key.
use Rattle.std.proofs.Common.{◌≡◌, ◌∙◌, ℕ, ◌+◌, Bool, true, false, ◌&&◌, not, Option, Some, None, [], ap, refl, sym}
use Rattle.std.proofs.Common.{inl, inr}
use Rattle.std.specs.Prelude.{◌⊎◌, ◌≢◌, ◌==◌, eqb, is_some}
use Rattle.std.specs.List.{list_any}
use Rattle.std.specs.Option.{option_eq, option_map}
use Rattle.std.proofs.lemmas.Bool.{and_from, and_parts, eq-eqb, eqb-true, false≢true}
use Rattle.std.proofs.lemmas.Bool.Decides.{eqb_tells}
use Rattle.bosh_base.specs.declared.call.Call.TheVariants as calls
use Rattle.bosh_base.specs.declared.entry.Begin.{Begin}
use Rattle.bosh_base.specs.declared.entry.Entry.{Entry}
use Rattle.bosh_base.specs.declared.entry.Entry.TheVariants as entries
use Rattle.bosh_base.specs.declared.key.Key.{Key}
use Rattle.bosh_base.specs.declared.key.KeyWork.{KeyWork}
use Rattle.bosh_base.specs.declared.make.Make.{Make}
use Rattle.bosh_base.specs.declared.moves.Move.{Move}
use Rattle.bosh_base.specs.declared.moves.Move.TheVariants as moves
use Rattle.bosh_base.specs.declared.owner.Owner.TheVariants.{Compile}
use Rattle.bosh_compile.specs.Readiness.{same_key}
use Rattle.bosh_history.specs.Calls.{key_for}
use Rattle.bosh_history.specs.Items.{slots_of}
use Rattle.bosh_history.specs.Known.{Known, Slot, SlotName, dep_of_task}
use Rattle.bosh_history.specs.Learn.{learn}
use Rattle.bosh_history.specs.Moments.{Moment, later, noting}
use Rattle.bosh_history.specs.Notes.{Begins, MayNote, Outside}
use Rattle.bosh_history.specs.Permitted.{IsPermitted}
use Rattle.bosh_history.specs.Recovered.{may_follow}
use Rattle.bosh_history.specs.Slots.{is_compiled, is_ready, is_taken, keys_of, may_take, next_key, takes, works_for}
use Rattle.bosh_history.specs.Steps.{compile_make, nth}
use Rattle.bosh_history.specs.Words.{holds}
use Rattle.laws_facts.proofs.CurrentLemmas.{none_works, worked}
use Rattle.laws_facts.proofs.LockLemmas.{note_stays}
use Rattle.laws_facts.proofs.WorkLemmas.{opens_next}
use Rattle.laws_facts.specs.CompileMachines.{is_for, is_slot_alone}
use Rattle.laws_facts.specs.KnownFacts.{KnownFacts}
use Rattle.laws_facts.specs.Owners.{works}
use Rattle.laws_items.proofs.ItemFrames.{BegunSlots, all_were, are_listed, begun_slots, made_apart, made_slot, one_made}
use Rattle.laws_items.proofs.ItemFrames.{was_noted}
use Rattle.laws_items.proofs.ListLemmas.{any_in, find_in}
use Rattle.laws_items.proofs.ListedLemmas.{implied}
use Rattle.laws_items.proofs.SlotFrames.{SameWork, WasThere, was_answered}
use Rattle.laws_items.specs.Lists.{IsIn}
use Rattle.laws_machines.proofs.GoalLemmas.{implied_by, none_of_new}
use Rattle.laws_machines.proofs.OnceLemmas.{flipped}
use Rattle.laws_machines.proofs.OpenLemmas.{past_last, worked_beside}
use Rattle.laws_machines.specs.Machines.{AreAlone}
use Rattle.laws_row_facts.specs.Words.{where_any}
use Rattle.laws_tasks.proofs.CountLemmas.{not_so}

-- the two are for different keys
abbrev Apart : Option Slot → Option Slot → Type 0
Apart a b = where_any (λ (it : Slot). not (holds (is_for it.key) b)) a ≡ true

-- they were so before
apart_was : (a b new other : Option Slot) → WasThere a new → WasThere b other → Apart a b → Apart new other
apart_was a b None other was also apart = refl
apart_was a b (Some x) None was also apart = refl
apart_was a b (Some x) (Some y) was also apart =
    let one : (it : Slot) × (a ≡ Some it) × SameWork it x = was x refl in
    let two : (it : Slot) × (b ≡ Some it) × SameWork it y = also y refl in
    let same : SameWork one.0 x = one.2 in
    let alike : SameWork two.0 y = two.2 in
    (λ j. not (option_eq same_key (same.key j) (alike.key j)))
    ∙ sym (λ j. where_any (λ (it : Slot). not (holds (is_for it.key) (two.1 j))) (one.1 j)) ∙ apart

-- ---- a machine is made

-- what takes a key is not for one of another slot
free_of : (m : Moment) → KnownFacts m → (t s : ℕ) (work : KeyWork) → next_key m.known t s ≡ Some work → (other : ℕ)
    → (other == s) ≡ false → works_for work.key (m.known.slot t other) ≡ false
free_of m h t s work next other differs = by (m.known.slot t other) refl
  where
    name : SlotName
    name = record { task = t; slot = other }

    none : list_any (takes m.known t s work.key) m.known.machines ≡ false
    none =
        let found : IsIn work (keys_of (m.known.task t).goal) × (may_take m.known t s work ≡ true) =
        find_in (may_take m.known t s) work (keys_of (m.known.task t).goal) next in
        not_so (is_taken m.known t s work.key)
        (and_parts (not (is_compiled m.known work.key)) (not (is_taken m.known t s work.key))
        (and_parts (is_ready m.known work) _ found.1).1).1

    taken : (slot : Option Slot) → m.known.slot t other ≡ slot → IsIn name m.known.machines → (b : Bool)
        → works_for work.key slot ≡ b → b ≡ false
    taken slot at there false is = refl
    taken slot at there true is =
        absurd
        (false≢true
        (sym none
        ∙ any_in (takes m.known t s work.key) name m.known.machines there
        (and_from (t == t) _ (eq-eqb t t refl)
        (and_from (not (other == s)) _ (ap not differs) ((λ j. works_for work.key (at j)) ∙ is)))))

    by : (slot : Option Slot) → m.known.slot t other ≡ slot → works_for work.key (m.known.slot t other) ≡ false
    by None at = λ j. works_for work.key (at j)
    by (Some it) at =
        (λ j. works_for work.key (at j))
        ∙ taken (Some it) at (are_listed m h name (ap is_some at)) (works_for work.key (Some it)) refl

-- so the made one is apart, whichever of the two it is
made_first : (key : Key) (made : Slot) (other : Option Slot) → made.key ≡ Some key → works_for key other ≡ false
    → Apart (Some made) other
made_first key made other keyed free = (λ j. not (holds (is_for (keyed j)) other)) ∙ by other free
  where
    of_key : (its : Option Key) → holds (same_key key) its ≡ false → not (option_eq same_key (Some key) its) ≡ true
    of_key (Some k) is = ap not is
    of_key None is = refl

    by : (other : Option Slot) → works_for key other ≡ false → not (holds (is_for (Some key)) other) ≡ true
    by (Some it) is = of_key it.key is
    by None is = refl

made_second : (key : Key) (made : Slot) (other : Option Slot) → made.key ≡ Some key → works_for key other ≡ false
    → Apart other (Some made)
made_second key made other keyed free = by other free
  where
    of_key : (its : Option Key) → holds (same_key key) its ≡ false → not (option_eq same_key its (Some key)) ≡ true
    of_key (Some k) is = ap not (flipped key k is)
    of_key None is = refl

    by : (other : Option Slot) → works_for key other ≡ false → Apart other (Some made)
    by (Some it) is = (λ j. not (option_eq same_key it.key (keyed j))) ∙ of_key it.key is
    by None is = refl

module _ (m : Moment) (h : KnownFacts m) (b : Begin) (follows : may_follow m (entries.Begin b) ≡ true) (may : Begins m b)
    (k : ℕ) (work : KeyWork) (make : Make) (own : b.owner ≡ Compile b.task k)
    (none : m.known.slot b.task k ≡ None) (next : next_key m.known b.task k ≡ Some work)
    (at_make : nth k (slots_of (m.known.task b.task).goal) ≡ Some make)
    (is : calls.CreateVm (compile_make work.key make) [] ≡ b.call) where
  abbrev new : Known
  new = learn m.known (entries.Begin b)

  -- the made one, as it is recorded
  record IsMade : Type 0 where
    made : Slot
    recorded : new.slot b.task k ≡ Some made
    keyed : made.key ≡ Some work.key

  is_made : IsMade
  is_made = record {
    made = record {
      dep = dep_of_task m.known b.task;
      make = compile_make work.key make;
      vm = None;
      doubt = Some (record { n = b.n; call = calls.CreateVm (compile_make work.key make) [] });
      key = key_for m.known b.task k;
    };
    recorded = made_slot m h b follows may k work make own none at_make is;
    keyed = ap (option_map (λ (it : KeyWork). it.key)) next;
  }

  -- another slot is as it was
  as_was : (t s : ℕ) → Compile b.task k ≢ Compile t s → new.slot t s ≡ m.known.slot t s
  as_was t s differs = made_apart m h b follows may k work make own none at_make is t s differs

  both_as : (t s other : ℕ) → Apart (m.known.slot t s) (m.known.slot t other) → new.slot t s ≡ m.known.slot t s
      → new.slot t other ≡ m.known.slot t other → Apart (new.slot t s) (new.slot t other)
  both_as t s other apart one two =
      (λ j. where_any (λ (it : Slot). not (holds (is_for it.key) (two j))) (one j)) ∙ apart

  made_apart_from : (t s other : ℕ) → (s == other) ≡ false → Apart (m.known.slot t s) (m.known.slot t other)
      → Apart (new.slot t s) (new.slot t other)
  made_apart_from t s other differs apart = by (eqb b.task t) refl (eqb k s) refl (eqb k other) refl
    where
      flip : (other == s) ≡ false
      flip = tells (other == s) refl
        where
          tells : (c : Bool) → (other == s) ≡ c → c ≡ false
          tells false is = refl
          tells true is =
              absurd (false≢true (sym differs ∙ eq-eqb s other (sym (eqb-true other s is))))

      by : (c : Bool) → eqb b.task t ≡ c → (d : Bool) → eqb k s ≡ d → (e : Bool) → eqb k other ≡ e
          → Apart (new.slot t s) (new.slot t other)
      by true task true one e two =
          let task_is : b.task ≡ t = eqb-true b.task t task in
          let slot_is : k ≡ s = eqb-true k s one in
          let same : new.slot t other ≡ m.known.slot t other =
          as_was t other
          (λ both. let equal : k ≡ other = cc in
          false≢true (sym differs ∙ eq-eqb s other (sym slot_is ∙ equal))) in
          let free : works_for work.key (m.known.slot t other) ≡ false =
          (λ j. works_for work.key (m.known.slot (sym task_is j) other))
          ∙ free_of m h b.task k work next other
          ((λ j. other == slot_is j) ∙ flip) in
          (λ j. where_any (λ (it : Slot). not (holds (is_for it.key) (same j))) (new.slot (sym task_is j)
          (sym slot_is j)))
          ∙ (λ j. where_any (λ (it : Slot). not (holds (is_for it.key) (m.known.slot t other))) (is_made.recorded j))
          ∙ made_first work.key is_made.made (m.known.slot t other) is_made.keyed free
      by true task false one true two =
          let task_is : b.task ≡ t = eqb-true b.task t task in
          let slot_is : k ≡ other = eqb-true k other two in
          let same : new.slot t s ≡ m.known.slot t s =
          as_was t s
          (λ both. let equal : k ≡ s = cc in false≢true (sym one ∙ eq-eqb k s equal)) in
          let free : works_for work.key (m.known.slot t s) ≡ false =
          (λ j. works_for work.key (m.known.slot (sym task_is j) s))
          ∙ free_of m h b.task k work next s ((λ j. s == slot_is j) ∙ differs) in
          (λ j. where_any (λ (it : Slot). not (holds (is_for it.key) (new.slot (sym task_is j) (sym slot_is j))))
          (same j))
          ∙ (λ j. where_any (λ (it : Slot). not (holds (is_for it.key) (is_made.recorded j))) (m.known.slot t s))
          ∙ made_second work.key is_made.made (m.known.slot t s) is_made.keyed free
      by true task false one false two =
          both_as t s other apart
          (as_was t s (λ both. let equal : k ≡ s = cc in false≢true (sym one ∙ eq-eqb k s equal)))
          (as_was t other (λ both. let equal : k ≡ other = cc in false≢true (sym two ∙ eq-eqb k other equal)))
      by false task d one e two =
          both_as t s other apart
          (as_was t s (λ both. let equal : b.task ≡ t = cc in false≢true (sym task ∙ eq-eqb b.task t equal)))
          (as_was t other (λ both. let equal : b.task ≡ t = cc in false≢true (sym task ∙ eq-eqb b.task t equal)))

-- ---- entries

module _ (outside : Outside) (m : Moment) (h : KnownFacts m) (t s other : ℕ) (differs : (s == other) ≡ false) where
  were_apart : works m t ≡ true → Apart (m.known.slot t s) (m.known.slot t other)
  were_apart working =
      implied (works m t && not (s == other)) (where_any (λ it. not (holds (is_for it.key) (m.known.slot t other)))
      (m.known.slot t s)) ((h.slots_work t s).alone other)
      (and_from (works m t) (not (s == other)) working (ap not differs))

  apart_note : (e : Entry) → may_follow m e ≡ true → MayNote outside m e → works (noting m e) t ≡ true
      → Apart ((learn m.known e).slot t s) ((learn m.known e).slot t other)
  apart_note (entries.Begin b) follows may working = by (begun_slots m b may)
    where
      old : Apart (m.known.slot t s) (m.known.slot t other)
      old = were_apart (worked m (entries.Begin b) t (note_stays outside m (entries.Begin b) may refl t) working)

      by : BegunSlots m b
          → Apart ((learn m.known (entries.Begin b)).slot t s) ((learn m.known (entries.Begin b)).slot t other)
      by (all_were there) =
          apart_was (m.known.slot t s) (m.known.slot t other) ((learn m.known (entries.Begin b)).slot t s)
          ((learn m.known (entries.Begin b)).slot t other) (there t s) (there t other) old
      by (one_made k work make own none next at_make is) =
          made_apart_from m h b follows may k work make own none next at_make is t s other differs old
  apart_note (entries.End e) follows may working =
      apart_was (m.known.slot t s) (m.known.slot t other) ((learn m.known (entries.End e)).slot t s)
      ((learn m.known (entries.End e)).slot t other) (was_answered e.answer (m.known.begun e.n) m.known t s)
      (was_answered e.answer (m.known.begun e.n) m.known t other)
      (were_apart (worked m (entries.End e) t (note_stays outside m (entries.End e) may refl t) working))
  apart_note (entries.TaskOpen o) follows may working = by (eqb_tells o.task t)
    where
      number : o.task ≡ m.known.tasks + 1
      number = opens_next m.known o may.0

      by : ((o.task == t) ≡ true) × (o.task ≡ t) ⊎ ((o.task == t) ≡ false) × (o.task ≢ t)
          → Apart (m.known.slot t s) (m.known.slot t other)
      by (inl same) =
          λ j. where_any (λ (it : Slot). not (holds (is_for it.key) (m.known.slot t other)))
          (none_of_new m h t s (past_last m.known.tasks o.task t number same.1) j)
      by (inr apart) = were_apart (worked_beside m o t number apart.0 apart.1 working)
  apart_note (entries.Snapshot it) follows may working = absurd may
  apart_note entry follows may working =
      apart_was (m.known.slot t s) (m.known.slot t other) ((learn m.known entry).slot t s)
      ((learn m.known entry).slot t other) (was_noted outside m entry may refl t s)
      (was_noted outside m entry may refl t other)
      (were_apart (worked m entry t (note_stays outside m entry may refl t) working))

-- ---- moves

alone_from : (m : Moment) (t s other : ℕ)
    → (works m t ≡ true → (s == other) ≡ false → Apart (m.known.slot t s) (m.known.slot t other))
    → is_slot_alone m t s other ≡ true
alone_from m t s other apart =
    implied_by (works m t && not (s == other)) _
    (λ both.
    let parts : (works m t ≡ true) × (not (s == other) ≡ true) = and_parts (works m t) (not (s == other)) both in
    apart parts.0 (not_so (s == other) parts.1))

slots_alone_move : (outside : Outside) (m : Moment) (move : Move) → IsPermitted outside m move → KnownFacts m
    → AreAlone (later m move)
slots_alone_move outside m (moves.Note e) may h t s other =
    alone_from (noting m e) t s other
    (λ working differs. apart_note outside m h t s other differs e may.1 may.2 working)
slots_alone_move outside m (moves.Stop it) may h t s other =
    alone_from (later m (moves.Stop it)) t s other
    (λ working differs. absurd (false≢true (sym (none_works m it t) ∙ working)))
slots_alone_move outside m move may h t s other = (h.slots_work t s).alone other

pub slots_alone : (outside : Outside) (m : Moment) (move : Move) → IsPermitted outside m move → KnownFacts m
    → AreAlone (later m move)
slots_alone outside m move may h = slots_alone_move outside m move may h
