-- Compile machines of tasks that work stay of their goals.
use Rattle.std.proofs.Common.{◌≡◌, ◌∙◌, ℕ, ◌+◌, Bool, true, false, ◌&&◌, Option, Some, None, List, [], ◌∷◌}
use Rattle.std.proofs.Common.{ap, refl, sym, subst, inl, inr, arith}
use Rattle.std.specs.Prelude.{◌⊎◌, ◌≢◌, ◌==◌, eqb, if◌then◌else◌, nat_le}
use Rattle.std.specs.List.{list_all}
use Rattle.std.specs.Option.{option_eq, option_map}
use Rattle.std.specs.Str.{bytes_eq}
use Rattle.std.proofs.lemmas.Bool.{and_from, and_parts, eq-eqb, eqb-true, false≢true}
use Rattle.std.proofs.lemmas.Bool.Decides.{eqb_tells}
use Rattle.bosh_base.specs.ExactParts.{Decides-make}
use Rattle.bosh_base.specs.declared.call.Call.TheVariants as calls
use Rattle.bosh_base.specs.declared.entry.Begin.{Begin}
use Rattle.bosh_base.specs.declared.entry.Entry.{Entry}
use Rattle.bosh_base.specs.declared.entry.Entry.TheVariants as entries
use Rattle.bosh_base.specs.declared.entry.TaskOpen.{TaskOpen}
use Rattle.bosh_base.specs.declared.goal.Goal.{Goal}
use Rattle.bosh_base.specs.declared.key.Key.{Key}
use Rattle.bosh_base.specs.declared.key.KeyWork.{KeyWork}
use Rattle.bosh_base.specs.declared.make.Make.{Make}
use Rattle.bosh_base.specs.declared.moves.Move.{Move}
use Rattle.bosh_base.specs.declared.moves.Move.TheVariants as moves
use Rattle.bosh_base.specs.declared.owner.Owner.TheVariants.{Compile}
use Rattle.bosh_history.specs.Calls.{key_for}
use Rattle.bosh_history.specs.Items.{slots_of}
use Rattle.bosh_history.specs.Known.{Known, Slot}
use Rattle.bosh_history.specs.Learn.{learn}
use Rattle.bosh_history.specs.Moments.{Moment, later, noting}
use Rattle.bosh_history.specs.Notes.{Begins, MayNote, Outside}
use Rattle.bosh_history.specs.Permitted.{IsPermitted}
use Rattle.bosh_history.specs.Recovered.{may_follow}
use Rattle.bosh_history.specs.Slots.{is_compiled, is_ready, keys_of, may_take, next_key}
use Rattle.bosh_history.specs.Steps.{compile_make, nth, work_for}
use Rattle.bosh_history.specs.Tasks.{task_opened}
use Rattle.bosh_history.specs.Words.{holds}
use Rattle.laws_compiling.proofs.GrowthLemmas.{compiled_stays}
use Rattle.laws_facts.proofs.CurrentLemmas.{none_works, worked}
use Rattle.laws_facts.proofs.LockLemmas.{is_opening, note_stays}
use Rattle.laws_facts.proofs.WorkLemmas.{begun_works, opens_next}
use Rattle.laws_facts.specs.CompileMachines.{is_for_work, is_make_for, is_slot_of_goal}
use Rattle.laws_facts.specs.KnownFacts.{KnownFacts}
use Rattle.laws_facts.specs.Owners.{works}
use Rattle.laws_items.proofs.DoneLemmas.{keys_stand, of_goal}
use Rattle.laws_items.proofs.ItemFrames.{BegunSlots, all_were, begun_slots, made_apart, made_slot, one_made, was_noted}
use Rattle.laws_items.proofs.ListLemmas.{find_in}
use Rattle.laws_items.proofs.SlotFrames.{SameWork, WasThere, was_answered, was_itself}
use Rattle.laws_items.specs.Lists.{IsIn}
use Rattle.laws_machines.proofs.FoundLemmas.{find_self}
use Rattle.laws_machines.specs.Machines.{AreOfGoals}
use Rattle.laws_row_facts.specs.Words.{implies, where_any}
use Rattle.laws_tasks.proofs.TaskFrames.{opened_stays}

-- ---- more keys are compiled

abbrev Grows : Known → Known → Type 0
Grows old new = (key : Key) → is_compiled old key ≡ true → is_compiled new key ≡ true

all_compiled : (old new : Known) → Grows old new → (keys : List Key) → list_all (is_compiled old) keys ≡ true
    → list_all (is_compiled new) keys ≡ true
all_compiled old new grows [] all = refl
all_compiled old new grows (key ∷ keys) all =
    let parts : (is_compiled old key ≡ true) × (list_all (is_compiled old) keys ≡ true) =
    and_parts (is_compiled old key) (list_all (is_compiled old) keys) all in
    and_from (is_compiled new key) (list_all (is_compiled new) keys) (grows key parts.0)
    (all_compiled old new grows keys parts.1)

for_work : (old new : Known) → Grows old new → (goal : Option Goal) (key : Option Key)
    → is_for_work old goal key ≡ true → is_for_work new goal key ≡ true
for_work old new grows goal (Some key) is = by (work_for goal key) is
  where
    by : (work : Option KeyWork) → holds (is_ready old) work ≡ true → holds (is_ready new) work ≡ true
    by (Some work) is = all_compiled old new grows work.deps is
    by None is = absurd (false≢true is)
for_work old new grows goal None is = absurd (false≢true is)

-- ---- one compile machine

-- a compile machine of the task
abbrev OfGoal : Moment → ℕ → ℕ → Type 0
OfGoal m t s = where_any (is_slot_of_goal m t s) (m.known.slot t s) ≡ true

-- what was there is of the goal still
still_of : (old new : Moment) (t s : ℕ) → (new.known.task t).goal ≡ (old.known.task t).goal
    → WasThere (old.known.slot t s) (new.known.slot t s) → Grows old.known new.known
    → ((it : Slot) → old.known.slot t s ≡ Some it → is_slot_of_goal old t s it ≡ true) → OfGoal new t s
still_of old new t s goal was grows of_it = by (new.known.slot t s) refl
  where
    by : (slot : Option Slot) → new.known.slot t s ≡ slot → OfGoal new t s
    by None none = λ j. where_any (is_slot_of_goal new t s) (none j)
    by (Some now) now_is =
        let it : (it : Slot) × (old.known.slot t s ≡ Some it) × SameWork it now = was now now_is in
        let same : SameWork it.0 now = it.2 in
        let parts : (is_for_work old.known (old.known.task t).goal it.0.key ≡ true) × _ =
        and_parts (is_for_work old.known (old.known.task t).goal it.0.key) _ (of_it it.0 it.1) in
        (λ j. where_any (is_slot_of_goal new t s) (now_is j))
        ∙ (λ j. is_for_work new.known (goal j) (same.key j)
        && holds (λ make. is_make_for (same.key j) make (same.make j)) (nth s (slots_of (goal j))))
        ∙ and_from (is_for_work new.known (old.known.task t).goal it.0.key) _
        (for_work old.known new.known grows (old.known.task t).goal it.0.key parts.0) parts.1

module _ (outside : Outside) (m : Moment) (h : KnownFacts m) (e : Entry) (may : MayNote outside m e)
    (none : is_opening e ≡ false) (t : ℕ) (working : works m t ≡ true) where
  kept_of : (s : ℕ) → WasThere (m.known.slot t s) ((learn m.known e).slot t s) → OfGoal (noting m e) t s
  kept_of s was =
      still_of m (noting m e) t s (opened_stays outside m e t may none).goal was
      (λ key is. compiled_stays outside m e key may is) (of_goal m t h working s)

-- ---- a machine is made

-- its key is one of the goal that may be compiled
made_for : (m : Moment) → KnownFacts m → (t s : ℕ) → works m t ≡ true → (work : KeyWork)
    → next_key m.known t s ≡ Some work → is_for_work m.known (m.known.task t).goal (Some work.key) ≡ true
made_for m h t s working work next =
    let found : IsIn work (keys_of (m.known.task t).goal) × (may_take m.known t s work ≡ true) =
    find_in (may_take m.known t s) work (keys_of (m.known.task t).goal) next in
    (λ j. holds (is_ready m.known)
    (find_self (is_compiled m.known) work [] (keys_of (m.known.task t).goal) (keys_stand m t h working) found.0 j))
    ∙ (and_parts (is_ready m.known work) _ found.1).0

module _ (outside : Outside) (m : Moment) (h : KnownFacts m) (b : Begin) (follows : may_follow m (entries.Begin b) ≡ true)
    (may : Begins m b) (s : ℕ) (work : KeyWork) (make : Make) (own : b.owner ≡ Compile b.task s)
    (none : m.known.slot b.task s ≡ None) (next : next_key m.known b.task s ≡ Some work)
    (at_make : nth s (slots_of (m.known.task b.task).goal) ≡ Some make)
    (is : calls.CreateVm (compile_make work.key make) [] ≡ b.call) where
  abbrev new : Moment
  new = noting m (entries.Begin b)

  made_of : OfGoal new b.task s
  made_of =
      (λ j. where_any (is_slot_of_goal new b.task s)
      (made_slot m h b follows may s work make own none at_make is j))
      ∙ (λ j. is_for_work new.known (goal j) (keyed j)
      && holds (λ it. is_make_for (keyed j) it (compile_make work.key make)) (slot_make j))
      ∙ and_from (is_for_work new.known (m.known.task b.task).goal (Some work.key)) _
      (for_work m.known new.known (λ key was. compiled_stays outside m (entries.Begin b) key may was)
      (m.known.task b.task).goal (Some work.key)
      (made_for m h b.task s (begun_works m b follows may) work next))
      ((Decides-make (compile_make work.key make) (compile_make work.key make)).1 refl)
    where
      goal : (new.known.task b.task).goal ≡ (m.known.task b.task).goal
      goal = (opened_stays outside m (entries.Begin b) b.task may refl).goal

      keyed : key_for m.known b.task s ≡ Some work.key
      keyed = ap (option_map (λ (it : KeyWork). it.key)) next

      slot_make : nth s (slots_of (new.known.task b.task).goal) ≡ Some make
      slot_make = (λ j. nth s (slots_of (goal j))) ∙ at_make

  made_goals : (t k : ℕ) → works m t ≡ true → OfGoal new t k
  made_goals t k working = by (eqb b.task t) refl (eqb s k) refl
    where
      apart : Compile b.task s ≢ Compile t k → OfGoal new t k
      apart differs =
          kept_of outside m h (entries.Begin b) may refl t working k
          (subst (λ (slot : Option Slot). WasThere (m.known.slot t k) slot)
          (sym (made_apart m h b follows may s work make own none at_make is t k differs))
          (was_itself (m.known.slot t k)))

      by : (c : Bool) → eqb b.task t ≡ c → (d : Bool) → eqb s k ≡ d → OfGoal new t k
      by true one true two =
          subst (λ (n : ℕ). OfGoal new n k) (eqb-true b.task t one)
          (subst (λ (n : ℕ). OfGoal new b.task n) (eqb-true s k two) made_of)
      by true one false two =
          apart (λ same. let slot : s ≡ k = cc in false≢true (sym two ∙ eq-eqb s k slot))
      by false one d two =
          apart (λ same. let task : b.task ≡ t = cc in false≢true (sym one ∙ eq-eqb b.task t task))

-- ---- entries

-- no compile machine is of a task that is to come
pub none_of_new : (m : Moment) → KnownFacts m → (t s : ℕ) → nat_le t m.known.tasks ≡ false → m.known.slot t s ≡ None
none_of_new m h t s later = by (m.known.slot t s) refl
  where
    by : (slot : Option Slot) → m.known.slot t s ≡ slot → slot ≡ None
    by None none = refl
    by (Some it) is =
        let all : (nat_le 1 t &&
        (nat_le t m.known.tasks && option_eq bytes_eq (Some it.dep) (m.known.task t).dep)) ≡ true =
        sym (λ j. where_any (λ (it : Slot). nat_le 1 t &&
        (nat_le t m.known.tasks && option_eq bytes_eq (Some it.dep) (m.known.task t).dep)) (is j))
        ∙ h.numbers.of_tasks t s in
        absurd
        (false≢true (sym later ∙ (and_parts (nat_le t m.known.tasks) _ (and_parts (nat_le 1 t) _ all).1).0))

goals_opened : (m : Moment) → KnownFacts m → (o : TaskOpen) → (outside : Outside) → MayNote outside m (entries.TaskOpen o)
    → (t s : ℕ) → works (noting m (entries.TaskOpen o)) t ≡ true → OfGoal (noting m (entries.TaskOpen o)) t s
goals_opened m h o outside may t s working = by (eqb_tells o.task t)
  where
    new : Moment
    new = noting m (entries.TaskOpen o)

    number : o.task ≡ m.known.tasks + 1
    number = opens_next m.known o may.0

    by : ((o.task == t) ≡ true) × (o.task ≡ t) ⊎ ((o.task == t) ≡ false) × (o.task ≢ t) → OfGoal new t s
    by (inl same) =
        λ j. where_any (is_slot_of_goal new t s)
        (none_of_new m h t s (grind (arith, same, number)) j)
    by (inr apart) =
        still_of m new t s (λ j. (if apart.0 j then task_opened m.known o else m.known.task t).goal) (was_itself
        (m.known.slot t s))
        (λ key is. is) (of_goal m t h (grind (arith, apart, working, number)) s)

goals_note : (outside : Outside) (m : Moment) → KnownFacts m → (e : Entry) → may_follow m e ≡ true → MayNote outside m e
    → (t s : ℕ) → works (noting m e) t ≡ true → OfGoal (noting m e) t s
goals_note outside m h (entries.Begin b) follows may t s working = by (begun_slots m b may)
  where
    was : works m t ≡ true
    was = worked m (entries.Begin b) t (note_stays outside m (entries.Begin b) may refl t) working

    by : BegunSlots m b → OfGoal (noting m (entries.Begin b)) t s
    by (all_were there) = kept_of outside m h (entries.Begin b) may refl t was s (there t s)
    by (one_made k work make own none next at_make is) =
        made_goals outside m h b follows may k work make own none next at_make is t s was
goals_note outside m h (entries.End e) follows may t s working =
    kept_of outside m h (entries.End e) may refl t
    (worked m (entries.End e) t (note_stays outside m (entries.End e) may refl t) working) s
    (was_answered e.answer (m.known.begun e.n) m.known t s)
goals_note outside m h (entries.TaskOpen o) follows may t s working = goals_opened m h o outside may t s working
goals_note outside m h (entries.Snapshot it) follows may t s working = absurd may
goals_note outside m h entry follows may t s working =
    kept_of outside m h entry may refl t (worked m entry t (note_stays outside m entry may refl t) working) s
    (was_noted outside m entry may refl t s)

-- ---- moves

pub implied_by : (a b : Bool) → (a ≡ true → b ≡ true) → implies a b ≡ true
implied_by true b goes = goes refl
implied_by false b goes = refl

goals_move : (outside : Outside) (m : Moment) (move : Move) → IsPermitted outside m move → KnownFacts m
    → AreOfGoals (later m move)
goals_move outside m (moves.Note e) may h t s =
    implied_by (works (noting m e) t) _ (λ working. goals_note outside m h e may.1 may.2 t s working)
goals_move outside m (moves.Stop it) may h t s =
    implied_by (works (later m (moves.Stop it)) t) _
    (λ working. absurd (false≢true (sym (none_works m it t) ∙ working)))
goals_move outside m move may h t s = (h.slots_work t s).of_goal

pub goals_kept : (outside : Outside) (m : Moment) (move : Move) → IsPermitted outside m move → KnownFacts m
    → AreOfGoals (later m move)
goals_kept outside m move may h = goals_move outside m move may h
