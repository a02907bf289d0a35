-- What an entry does to a task that works: it comes further.
use Rattle.std.proofs.Common.{◌≡◌, ◌∙◌, ℕ, zero, suc, Bool, true, false, ◌&&◌, not, List, []}
use Rattle.std.proofs.Common.{Option, Some, None, ap, refl, sym, subst, inl, inr, arith}
use Rattle.std.specs.Prelude.{◌⊎◌, ◌≢◌, ◌==◌, eqb, if◌then◌else◌, is_some, nat_le}
use Rattle.std.specs.Option.{option_eq}
use Rattle.std.specs.Str.{bytes_eq}
use Rattle.std.proofs.lemmas.Bool.{and_from, and_parts, eq-eqb, eqb-true, false≢true}
use Rattle.std.proofs.lemmas.Bool.Decides.{eqb_tells}
use Rattle.std.proofs.lemmas.Slice.Eq.{bytes_eq-Decides}
use Rattle.bosh_base.specs.declared.call.Call.{Call}
use Rattle.bosh_base.specs.declared.call.Call.TheVariants as calls
use Rattle.bosh_base.specs.declared.entry.Begin.{Begin}
use Rattle.bosh_base.specs.declared.entry.Entry.{Entry}
use Rattle.bosh_base.specs.declared.entry.Entry.TheVariants as entries
use Rattle.bosh_base.specs.declared.entry.TaskOpen.{TaskOpen}
use Rattle.bosh_base.specs.declared.key.Key.{Key}
use Rattle.bosh_base.specs.declared.key.KeyWork.{KeyWork}
use Rattle.bosh_base.specs.declared.make.Make.{Make}
use Rattle.bosh_base.specs.declared.owner.Owner.{Owner}
use Rattle.bosh_base.specs.declared.owner.Owner.TheVariants.{Instance, Compile, Disk}
use Rattle.bosh_history.specs.Calls.{begins, key_for}
use Rattle.bosh_history.specs.Items.{is_item, is_leftover, is_slot_left, phase_of, slots_of}
use Rattle.bosh_history.specs.Known.{Known, Slot, SlotName, Task, dep_named, dep_of_task}
use Rattle.bosh_history.specs.Learn.{learn}
use Rattle.bosh_history.specs.Moments.{Moment}
use Rattle.bosh_history.specs.Notes.{Begins, MayNote, Outside}
use Rattle.bosh_history.specs.Orders.{same_slot}
use Rattle.bosh_history.specs.Recovered.{may_follow}
use Rattle.bosh_history.specs.Slots.{is_compiled, next_key, slot_begun}
use Rattle.bosh_history.specs.Steps.{call_now, compile_make, compiling, nth}
use Rattle.bosh_history.specs.Tasks.{task_opened}
use Rattle.bosh_history.specs.Words.{at, holds, is_among}
use Rattle.bosh_rows.specs.Standing.{same_truth}
use Rattle.laws_compiling.proofs.GrowthLemmas.{compiled_stays}
use Rattle.laws_facts.proofs.DepLemmas.{dep_begin}
use Rattle.laws_facts.proofs.WorkLemmas.{begun_works, opens_next}
use Rattle.laws_facts.specs.KnownFacts.{KnownFacts}
use Rattle.laws_facts.specs.Owners.{works}
use Rattle.laws_items.proofs.ListLemmas.{among_is, holds_some}
use Rattle.laws_items.proofs.ListedLemmas.{Lists, at_some, disks, instances, lists, one_lock}
use Rattle.laws_items.proofs.MarkLemmas.{marks_itself, onward_note}
use Rattle.laws_items.proofs.OnwardLemmas.{Onward, TaskOnward, slot_by}
use Rattle.laws_items.proofs.PhaseLemmas.{AreListed, IsLeft, of_item}
use Rattle.laws_items.proofs.SlotCalls.{SlotCall, compiles, creates, deletes, finds, looks, slot_call}
use Rattle.laws_items.proofs.SlotFrames.{SameWork, Slots, WasThere, begun_apart, begun_own, changed_slot, is_of_call}
use Rattle.laws_items.proofs.SlotFrames.{slots_note, told_as, was_answered, was_itself}
use Rattle.laws_tasks.proofs.CountLemmas.{not_so}
use Rattle.laws_tasks.proofs.TaskFrames.{opened_itself}

-- ---- compile machines of a moment

same_slot_is : (a b : SlotName) → same_slot a b ≡ true → a ≡ b
same_slot_is a b same =
    let (task, slot) = and_parts (a.task == b.task) (a.slot == b.slot) same in
    λ i. record { task = eqb-true a.task b.task task i; slot = eqb-true a.slot b.slot slot i }

pub truth_from : (a b : Bool) → same_truth a b ≡ true → b ≡ true → a ≡ true
truth_from true b same is = refl
truth_from false true same is = absurd (false≢true same)
truth_from false false same is = absurd (false≢true is)

pub are_listed : (m : Moment) → KnownFacts m → AreListed m.known
are_listed m h name is =
    among_is same_slot same_slot_is name m.known.machines
    (truth_from (is_among same_slot name m.known.machines) (is_some (m.known.slot name.task name.slot))
    (h.lists.machine_listed name.task name.slot) is)

pub same_dep_is : (dep : List ℕ) (other : Option (List ℕ)) → option_eq bytes_eq (Some dep) other ≡ true
    → other ≡ Some dep
same_dep_is dep (Some other) same = ap Some (sym ((bytes_eq-Decides dep other).0 same))
same_dep_is dep None same = absurd (false≢true same)

-- a compile machine has the deployment of its task
pub slot_dep : (m : Moment) (t s : ℕ) (it : Slot) → KnownFacts m → m.known.slot t s ≡ Some it
    → (m.known.task t).dep ≡ Some it.dep
slot_dep m t s it h is =
    let (low, rest) = and_parts (nat_le 1 t) _
    (at_some (λ (it : Slot). nat_le 1 t &&
    (nat_le t m.known.tasks && option_eq bytes_eq (Some it.dep) (m.known.task t).dep))
    (m.known.slot t s) it (h.numbers.of_tasks t s) is) in
    same_dep_is it.dep (m.known.task t).dep (and_parts (nat_le t m.known.tasks) _ rest).1

-- ---- leftover machines

leftover_was : (old new : Known) (t : ℕ) (name : SlotName) → (new.task t).dep ≡ (old.task t).dep
    → WasThere (old.slot name.task name.slot) (new.slot name.task name.slot) → is_leftover new t name ≡ true
    → is_leftover old t name ≡ true
leftover_was old new t name dep was left =
    let parts : (not (name.task == t) ≡ true) × _ = and_parts (not (name.task == t)) _ left in
    let now : (it : Slot) × (new.slot name.task name.slot ≡ Some it) ×
    (option_eq bytes_eq (Some it.dep) (new.task t).dep ≡ true) =
    holds_some (λ it. option_eq bytes_eq (Some it.dep) (new.task t).dep) (new.slot name.task name.slot) parts.1 in
    let it : (it : Slot) × (old.slot name.task name.slot ≡ Some it) × SameWork it now.0 = was now.0 now.1 in
    let same : SameWork it.0 now.0 = it.2 in
    and_from (not (name.task == t)) _ parts.0
    ((λ j. holds (λ it. option_eq bytes_eq (Some it.dep) (old.task t).dep) (it.1 j))
    ∙ sym (λ j. option_eq bytes_eq (Some (same.dep j)) (dep j)) ∙ now.2)

some_was : (old new : Option Slot) → WasThere old new → is_some new ≡ true → is_some old ≡ true
some_was old (Some now) was is =
    let it : (it : Slot) × (old ≡ Some it) × SameWork it now = was now refl in ap is_some it.1
some_was old None was is = absurd (false≢true is)

-- where each compile machine was there, a task that has come further has nothing more to do with them
onward_of : (old new : Known) (t : ℕ) → TaskOnward (old.task t) (new.task t)
    → ((a s : ℕ) → WasThere (old.slot a s) (new.slot a s))
    → ((key : Key) → is_compiled old key ≡ true → is_compiled new key ≡ true) → Onward old new t
onward_of old new t task was grows = record {
  task = task;
  leftover = λ name left. leftover_was old new t name task.alike.dep (was name.task name.slot) left;
  slots = λ s is. inl (some_was (old.slot t s) (new.slot t s) (was t s) is);
  compiled = grows;
}

-- ---- entries but the beginning of a call

pub was_noted : (outside : Outside) (m : Moment) (e : Entry) → MayNote outside m e → is_of_call e ≡ false → (a s : ℕ)
    → WasThere (m.known.slot a s) ((learn m.known e).slot a s)
was_noted outside m e may none a s =
    subst (λ (slots : Slots). WasThere (m.known.slot a s) (slots a s)) (sym (slots_note outside m e may none))
    (was_itself (m.known.slot a s))

task_at : (old new : ℕ → Task) (n t : ℕ) (x : Task) → (n == t) ≡ false → TaskOnward (old t) (at eqb n x old t)
task_at old new n t x apart =
    subst (λ (b : Bool). TaskOnward (old t) (if b then x else old t)) (sym apart)
    (record { alike = opened_itself (old t); marks = marks_itself (old t) })

-- ---- a call begins

-- the machines were there, or one is made by a task for a slot of its own
pub data BegunSlots (m : Moment) (b : Begin) : Type 0 where
  all_were : ((a s : ℕ) → WasThere (m.known.slot a s) ((learn m.known (entries.Begin b)).slot a s)) → BegunSlots m b
  one_made : (s : ℕ) (work : KeyWork) (make : Make) → b.owner ≡ Compile b.task s
      → m.known.slot b.task s ≡ None → next_key m.known b.task s ≡ Some work
      → nth s (slots_of (m.known.task b.task).goal) ≡ Some make
      → calls.CreateVm (compile_make work.key make) [] ≡ b.call → BegunSlots m b

in_doubt_was : (n : ℕ) (dep : List ℕ) (key : Option Key) (it : Slot) (vm : ℕ)
    → WasThere (Some it) (slot_begun n (calls.DeleteVm vm) dep key (Some it))
in_doubt_was n dep key it vm now is =
    (it, refl, told_as it now it.vm (Some (record { n = n; call = calls.DeleteVm vm })) is)

module _ (m : Moment) (b : Begin) (may : Begins m b) where
  kept_own : (task s : ℕ) → b.owner ≡ Compile task s
      → WasThere (m.known.slot task s)
      (slot_begun b.n b.call (dep_of_task m.known task) (key_for m.known task s) (m.known.slot task s))
      → BegunSlots m b
  kept_own task s own was =
      all_were
      (λ a k. subst (λ (o : Owner). WasThere (m.known.slot a k) ((begins b o m.known).slot a k)) (sym own)
      (changed_slot WasThere was_itself task s
      (slot_begun b.n b.call (dep_of_task m.known task) (key_for m.known task s) (m.known.slot task s))
      m.known.slot was a k))

  -- a call that leaves the record as it is
  asked : (task s : ℕ) (call : Call) → b.owner ≡ Compile task s → call ≡ b.call
      → WasThere (m.known.slot task s)
      (slot_begun b.n call (dep_of_task m.known task) (key_for m.known task s) (m.known.slot task s)) → BegunSlots m b
  asked task s call own is was =
      kept_own task s own
      (subst
      (λ (c : Call). WasThere (m.known.slot task s)
      (slot_begun b.n c (dep_of_task m.known task) (key_for m.known task s) (m.known.slot task s))) is was)

  of_slot : (task s : ℕ) → b.owner ≡ Compile task s → SlotCall m b.task task s b.call → BegunSlots m b
  of_slot task s own (creates work make mine none next at_make is) =
      let same : task ≡ b.task = eqb-true task b.task mine in
      one_made s work make (own ∙ (λ j. Compile (same j) s))
      (sym (λ j. m.known.slot (same j) s) ∙ none) next at_make is
  of_slot task s own (deletes it vm at_slot has none done is) =
      asked task s (calls.DeleteVm vm.vm) own is
      (subst
      (λ (slot : Option Slot). WasThere slot
      (slot_begun b.n (calls.DeleteVm vm.vm) (dep_of_task m.known task) (key_for m.known task s) slot)) (sym at_slot)
      (in_doubt_was b.n (dep_of_task m.known task) (key_for m.known task s) it vm.vm))
  of_slot task s own (compiles it vm k work mine at_slot has none keyed new free of_key is) =
      asked task s (compiling m.known vm.vm work) own is (was_itself (m.known.slot task s))
  of_slot task s own (finds it doubt other at_slot has doubted is) =
      asked task s (calls.FindVm doubt.n) own is (was_itself (m.known.slot task s))
  of_slot task s own (looks it vm doubt other at_slot has doubted is) =
      asked task s (calls.HasVm vm.vm) own is (was_itself (m.known.slot task s))

  pub begun_slots : BegunSlots m b
  begun_slots = by b.owner refl
    where
      by : (owner : Owner) → b.owner ≡ owner → BegunSlots m b
      by (Instance i) own =
          all_were
          (λ a k. subst (λ (o : Owner). WasThere (m.known.slot a k) ((begins b o m.known).slot a k)) (sym own)
          (was_itself (m.known.slot a k)))
      by (Compile task s) own =
          of_slot task s own
          (slot_call m b.task task s b.call (sym (λ j. call_now m b.task (own j)) ∙ may.is_call))
      by (Disk d) own =
          all_were
          (λ a k. subst (λ (o : Owner). WasThere (m.known.slot a k) ((begins b o m.known).slot a k)) (sym own)
          (was_itself (m.known.slot a k)))

-- ---- a machine is made

nth_none : {X : Type 0} (s : ℕ) (x : X) → nth {A = X} s [] ≡ Some x → ⊥
nth_none zero x is = absurd cc
nth_none (suc s) x is = absurd cc

module _ (m : Moment) (h : KnownFacts m) (b : Begin) (follows : may_follow m (entries.Begin b) ≡ true) (may : Begins m b)
    (s : ℕ) (work : KeyWork) (make : Make) (own : b.owner ≡ Compile b.task s) (none : m.known.slot b.task s ≡ None)
    (at_make : nth s (slots_of (m.known.task b.task).goal) ≡ Some make)
    (is : calls.CreateVm (compile_make work.key make) [] ≡ b.call) where
  -- the task that makes it has a deployment
  pub maker_dep : (m.known.task b.task).dep ≡ Some (dep_of_task m.known b.task)
  maker_dep = by (lists m b.task h (begun_works m b follows may))
    where
      by : Lists (m.known.task b.task) → (m.known.task b.task).dep ≡ Some (dep_of_task m.known b.task)
      by (disks it) = absurd (nth_none s make (sym (λ j. nth s (slots_of (it.goal_is j))) ∙ at_make))
      by (instances it) = it.dep_is ∙ sym (λ j. Some (dep_named (it.dep_is j)))

  abbrev pub new : Known
  new = learn m.known (entries.Begin b)

  -- what is recorded of it
  pub made_slot : new.slot b.task s
      ≡ slot_begun b.n (calls.CreateVm (compile_make work.key make) []) (dep_of_task m.known b.task)
      (key_for m.known b.task s) (m.known.slot b.task s)
  made_slot =
      (λ j. (begins b (own j) m.known).slot b.task s)
      ∙ begun_own b m.known b.task s
      ∙ sym (λ j. slot_begun b.n (is j) (dep_of_task m.known b.task) (key_for m.known b.task s) (m.known.slot b.task s))

  -- the others
  pub made_apart : (a k : ℕ) → Compile b.task s ≢ Compile a k → new.slot a k ≡ m.known.slot a k
  made_apart a k apart = (λ j. (begins b (own j) m.known).slot a k) ∙ begun_apart b (Compile b.task s) m.known a k apart

  -- the slot was left
  pub was_left : is_slot_left m.known b.task s ≡ true
  was_left = by (is_slot_left m.known b.task s) refl (of_item m.known b.task (Compile b.task s) item)
    where
      item : is_item m.known b.task (Compile b.task s) ≡ true
      item = sym (λ j. is_item m.known b.task (own j)) ∙ may.is_item

      by : (left : Bool) → is_slot_left m.known b.task s ≡ left
          → (p : ℕ) × IsLeft m.known b.task (Compile b.task s) p → is_slot_left m.known b.task s ≡ true
      by true left it = left
      by false left it =
          let nothing_left : phase_of m.known b.task (Compile b.task s) ≡ None =
          (λ j. slot_by (eq-eqb b.task b.task refl j) (left j)
          (is_leftover m.known b.task (record { task = b.task; slot = s }))) in
          let some : phase_of m.known b.task (Compile b.task s) ≡ Some it.0 = it.1.phase in absurd cc

  module _ (t : ℕ) (working : works m t ≡ true) where
    -- it is no leftover of another task that works
    made_left : (name : SlotName) → is_leftover new t name ≡ true → is_leftover m.known t name ≡ true
    made_left name left = by (eqb b.task name.task) refl (eqb s name.slot) refl
      where
        same_at : (a k : ℕ) → Compile b.task s ≢ Compile a k → (new.task t).dep ≡ (m.known.task t).dep
            → is_leftover new t (record { task = a; slot = k }) ≡ true
            → is_leftover m.known t (record { task = a; slot = k }) ≡ true
        same_at a k apart dep left =
            leftover_was m.known new t (record { task = a; slot = k }) dep
            (subst (λ (slot : Option Slot). WasThere (m.known.slot a k) slot) (sym (made_apart a k apart))
            (was_itself (m.known.slot a k))) left

        dep : (new.task t).dep ≡ (m.known.task t).dep
        dep = dep_begin m b t

        -- the made machine would be of the deployment of the task, which then makes it
        no_left : (name.task == t) ≡ false → b.task ≡ name.task → s ≡ name.slot
            → holds (λ it. option_eq bytes_eq (Some it.dep) (new.task t).dep) (new.slot name.task name.slot) ≡ true
            → ⊥
        no_left other task slot there =
            let found : holds (λ it. option_eq bytes_eq (Some it.dep) (new.task t).dep) (new.slot b.task s) ≡ true =
            (λ j. holds (λ it. option_eq bytes_eq (Some it.dep) (new.task t).dep) (new.slot (task j)
            (slot j))) ∙ there in
            let of_dep : option_eq bytes_eq (Some (dep_of_task m.known b.task)) (new.task t).dep ≡ true =
            sym (λ j. holds (λ it. option_eq bytes_eq (Some it.dep) (new.task t).dep) (made_slot j)) ∙ found in
            let one : (m.known.task t).dep ≡ Some (dep_of_task m.known b.task) =
            sym dep ∙ same_dep_is (dep_of_task m.known b.task) (new.task t).dep of_dep in
            let same : t ≡ b.task =
            one_lock m t b.task h working (begun_works m b follows may) (one ∙ sym maker_dep) in
            false≢true (sym other ∙ eq-eqb name.task t (sym task ∙ sym same))

        by : (c : Bool) → eqb b.task name.task ≡ c → (d : Bool) → eqb s name.slot ≡ d
            → is_leftover m.known t name ≡ true
        by true one true two =
            let parts : (not (name.task == t) ≡ true) ×
            (holds (λ it. option_eq bytes_eq (Some it.dep) (new.task t).dep) (new.slot name.task name.slot) ≡ true) =
            and_parts (not (name.task == t)) _ left in
            absurd
            (no_left (not_so (name.task == t) parts.0) (eqb-true b.task name.task one) (eqb-true s name.slot two)
            parts.1)
        by true one false two =
            same_at name.task name.slot
            (λ same. let slot : s ≡ name.slot = cc in false≢true (sym two ∙ eq-eqb s name.slot slot)) dep left
        by false one d two =
            same_at name.task name.slot
            (λ same. let task : b.task ≡ name.task = cc in false≢true (sym one ∙ eq-eqb b.task name.task task)) dep left

    made_slots : (k : ℕ) → is_some (new.slot t k) ≡ true
        → (is_some (m.known.slot t k) ≡ true) ⊎ (is_slot_left m.known t k ≡ true)
    made_slots k there = by (eqb b.task t) refl (eqb s k) refl
      where
        by : (c : Bool) → eqb b.task t ≡ c → (d : Bool) → eqb s k ≡ d
            → (is_some (m.known.slot t k) ≡ true) ⊎ (is_slot_left m.known t k ≡ true)
        by true one true two =
            inr (sym (λ j. is_slot_left m.known (eqb-true b.task t one j) (eqb-true s k two j)) ∙ was_left)
        by true one false two =
            inl
            (sym (λ j. is_some
            (made_apart t k (λ same. let slot : s ≡ k = cc in false≢true (sym two ∙ eq-eqb s k slot)) j)) ∙ there)
        by false one d two =
            inl
            (sym (λ j. is_some
            (made_apart t k (λ same. let task : b.task ≡ t = cc in false≢true (sym one ∙ eq-eqb b.task t task)) j))
            ∙ there)

    pub made_onward : (outside : Outside) → Onward m.known new t
    made_onward outside = record {
      task = onward_note outside m (entries.Begin b) t may refl;
      leftover = made_left;
      slots = made_slots;
      compiled = λ key was. compiled_stays outside m (entries.Begin b) key may was;
    }

-- ---- all entries

module _ (outside : Outside) (m : Moment) (h : KnownFacts m) where
  onward_begun : (b : Begin) → may_follow m (entries.Begin b) ≡ true → Begins m b → (t : ℕ) → works m t ≡ true
      → BegunSlots m b → Onward m.known (learn m.known (entries.Begin b)) t
  onward_begun b follows may t working (all_were was) =
      onward_of m.known (learn m.known (entries.Begin b)) t (onward_note outside m (entries.Begin b) t may refl) was
      (λ key. compiled_stays outside m (entries.Begin b) key may)
  onward_begun b follows may t working (one_made s work make own none next at_make is) =
      made_onward m h b follows may s work make own none at_make is t working outside

  onward_opened : (o : TaskOpen) → MayNote outside m (entries.TaskOpen o) → (t : ℕ) → works m t ≡ true
      → Onward m.known (learn m.known (entries.TaskOpen o)) t
  onward_opened o may t working =
      onward_of m.known (learn m.known (entries.TaskOpen o)) t
      (task_at m.known.task (learn m.known (entries.TaskOpen o)).task o.task t (task_opened m.known o) apart)
      (λ a s. was_itself (m.known.slot a s)) (λ key is. is)
    where
      apart : (o.task == t) ≡ false
      apart = grind (arith, opens_next m.known o may.0, working, eqb_tells o.task t)

  -- a task that works comes further by each entry
  pub onward : (e : Entry) → may_follow m e ≡ true → MayNote outside m e → (t : ℕ) → works m t ≡ true
      → Onward m.known (learn m.known e) t
  onward (entries.Begin b) follows may t working = onward_begun b follows may t working (begun_slots m b may)
  onward (entries.End e) follows may t working =
      onward_of m.known (learn m.known (entries.End e)) t (onward_note outside m (entries.End e) t may refl)
      (was_answered e.answer (m.known.begun e.n) m.known) (λ key. compiled_stays outside m (entries.End e) key may)
  onward (entries.TaskOpen o) follows may t working = onward_opened o may t working
  onward (entries.Snapshot s) follows may t working = absurd may
  onward entry follows may t working =
      onward_of m.known (learn m.known entry) t (onward_note outside m entry t may refl)
      (was_noted outside m entry may refl) (λ key. compiled_stays outside m entry key may)
