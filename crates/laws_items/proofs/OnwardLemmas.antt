-- A task that has come further: nothing is left of it before a phase that it had come to.
use Rattle.std.proofs.Common.{◌≡◌, ◌∙◌, ℕ, ◌+◌, ◌≤◌, Bool, true, false, ◌&&◌, ◌||◌, not, List, [], ◌∷◌, length}
use Rattle.std.proofs.Common.{Option, Some, None, ap, refl, sym, inl, inr, arith}
use Rattle.std.specs.Prelude.{◌⊎◌, ◌==◌, eqb, find, if◌then◌else◌, is_some, nat_lt}
use Rattle.std.specs.List.{list_all}
use Rattle.std.specs.Option.{option_eq}
use Rattle.std.specs.Str.{bytes_eq}
use Rattle.std.proofs.lemmas.Bool.{and_from, and_parts, eq-eqb, false≢true}
use Rattle.std.proofs.lemmas.Bool.Decides.{nat_tests}
use Rattle.bosh_base.specs.declared.inst.Inst.{Inst}
use Rattle.bosh_base.specs.declared.key.Key.{Key}
use Rattle.bosh_base.specs.declared.key.KeyWork.{KeyWork}
use Rattle.bosh_base.specs.declared.owner.Owner.{Owner}
use Rattle.bosh_base.specs.declared.owner.Owner.TheVariants.{Instance, Compile, Disk}
use Rattle.bosh_history.specs.Items.{instance_phase, is_before, is_finished, is_leftover, is_slot_left, is_to_change}
use Rattle.bosh_history.specs.Items.{is_to_go, is_to_ping, phase_of, slots_of, stage_of}
use Rattle.bosh_history.specs.Known.{Known, Slot, SlotName, Task, plan_in}
use Rattle.bosh_history.specs.Moments.{Moment}
use Rattle.bosh_history.specs.Slots.{is_compiled, is_ready, is_taken, keys_of, may_take, next_key}
use Rattle.bosh_history.specs.Words.{holds, is_among}
use Rattle.bosh_rows.specs.Standing.{is_empty}
use Rattle.bosh_rows.specs.Same.{same_inst}
use Rattle.laws_facts.specs.KnownFacts.{KnownFacts}
use Rattle.laws_facts.specs.Owners.{works}
use Rattle.laws_items.proofs.DoneLemmas.{all_compiled, none_next, none_recorded}
use Rattle.laws_items.proofs.ListedLemmas.{Lists, ListsDisks, disks, instances, lists, no_disk}
use Rattle.laws_items.proofs.PhaseLemmas.{NoneBefore}
use Rattle.laws_tasks.proofs.TaskFrames.{OpenedAlike}

-- ---- phases

-- the phase of an instance, by what is left of it, and that of a compile machine
abbrev pub phase_by : Bool → Bool → Bool → ℕ → Option ℕ
phase_by ping go change stage = if ping then Some 0 else (if go then Some 3 else (if change then Some stage else None))

abbrev pub slot_by : Bool → Bool → Bool → Option ℕ
slot_by own left over = if own then (if left then Some 2 else None) else (if over then Some 1 else None)

-- .. and of a disk
abbrev pub disk_by : Bool → Option ℕ
disk_by left = if left then Some 0 else None

and_none : (b : Bool) → (b && false) ≡ false
and_none true = refl
and_none false = refl

-- ---- one task

-- the marks of a task, which only grow
pub record Marks (a b : Task) : Type 0 where
  pub pinged : (i : Inst) → a.pinged i ≡ true → b.pinged i ≡ true
  pub gone : (i : Inst) → a.gone i ≡ true → b.gone i ≡ true
  pub finished : (i : Inst) → is_finished (a.upd i) ≡ true → is_finished (b.upd i) ≡ true

-- it is as it was opened, with more marks
pub record TaskOnward (a b : Task) : Type 0 where
  pub alike : OpenedAlike a b
  pub marks : Marks a b

still_not : (x y : Bool) → (x ≡ true → y ≡ true) → not y ≡ true → not x ≡ true
still_not false y goes none = refl
still_not true y goes none = absurd (false≢true (sym (ap not (goes refl)) ∙ none))

later : (q r p : ℕ) → q ≤ r → nat_lt q p ≡ false → nat_lt r p ≡ false
later q r p less is = grind (arith, nat_tests, less, is)

module _ (a b : Task) (on : TaskOnward a b) (i : Inst) where
  pub was_to_ping : is_to_ping b i ≡ true → is_to_ping a i ≡ true
  was_to_ping is =
      let parts : (is_among same_inst i b.to_ping ≡ true) × (not (b.pinged i) ≡ true) =
      and_parts (is_among same_inst i b.to_ping) (not (b.pinged i)) is in
      and_from (is_among same_inst i a.to_ping) (not (a.pinged i))
      (sym (λ j. is_among same_inst i (on.alike.to_ping j)) ∙ parts.0)
      (still_not (a.pinged i) (b.pinged i) (on.marks.pinged i) parts.1)

  pub was_to_go : is_to_go b i ≡ true → is_to_go a i ≡ true
  was_to_go is =
      let parts : (is_among same_inst i b.obsolete ≡ true) × (not (b.gone i) ≡ true) =
      and_parts (is_among same_inst i b.obsolete) (not (b.gone i)) is in
      and_from (is_among same_inst i a.obsolete) (not (a.gone i))
      (sym (λ j. is_among same_inst i (on.alike.obsolete j)) ∙ parts.0)
      (still_not (a.gone i) (b.gone i) (on.marks.gone i) parts.1)

  pub was_to_change : is_to_change b i ≡ true → is_to_change a i ≡ true
  was_to_change is =
      let parts : (is_among same_inst i b.changed ≡ true) × (not (is_finished (b.upd i)) ≡ true) =
      and_parts (is_among same_inst i b.changed) (not (is_finished (b.upd i))) is in
      and_from (is_among same_inst i a.changed) (not (is_finished (a.upd i)))
      (sym (λ j. is_among same_inst i (on.alike.changed j)) ∙ parts.0)
      (still_not (is_finished (a.upd i)) (is_finished (b.upd i)) (on.marks.finished i) parts.1)

  -- a phase of which something is left now came no later before
  pub instance_onward : (p : ℕ) → is_before p (instance_phase a i) ≡ false → is_before p (instance_phase b i) ≡ false
  instance_onward p none =
      by (is_to_ping b i) (is_to_go b i) (is_to_change b i) refl refl refl (is_to_ping a i) (is_to_go a i) refl refl
    where
      stage : ℕ
      stage = 4 + stage_of (plan_in a.goal i)

      was : (ping go change : Bool) → is_to_ping a i ≡ ping → is_to_go a i ≡ go → is_to_change a i ≡ change
          → is_before p (phase_by ping go change stage) ≡ false
      was ping go change one two three = sym (λ j. is_before p (phase_by (one j) (two j) (three j) stage)) ∙ none

      now : (ping go change : Bool) → is_to_ping b i ≡ ping → is_to_go b i ≡ go → is_to_change b i ≡ change
          → is_before p (instance_phase b i) ≡ is_before p (phase_by ping go change stage)
      now ping go change one two three =
          λ j. is_before p (phase_by (one j) (two j) (three j) (4 + stage_of (plan_in (on.alike.goal j) i)))

      by : (ping go change : Bool) → is_to_ping b i ≡ ping → is_to_go b i ≡ go → is_to_change b i ≡ change
          → (pinged goes : Bool) → is_to_ping a i ≡ pinged → is_to_go a i ≡ goes
          → is_before p (instance_phase b i) ≡ false
      by true go change one two three pinged goes was_one was_two =
          now true go change one two three ∙ was true goes (is_to_change a i) (was_to_ping one) was_two refl
      by false true change one two three true goes was_one was_two =
          now false true change one two three
          ∙ later 0 3 p (omega arith) (was true goes (is_to_change a i) was_one was_two refl)
      by false true change one two three false goes was_one was_two =
          now false true change one two three ∙ was false true (is_to_change a i) was_one (was_to_go two) refl
      by false false true one two three true goes was_one was_two =
          now false false true one two three
          ∙ later 0 stage p (omega arith) (was true goes (is_to_change a i) was_one was_two refl)
      by false false true one two three false true was_one was_two =
          now false false true one two three
          ∙ later 3 stage p (omega arith) (was false true (is_to_change a i) was_one was_two refl)
      by false false true one two three false false was_one was_two =
          now false false true one two three ∙ was false false true was_one was_two (was_to_change three)
      by false false false one two three pinged goes was_one was_two = now false false false one two three

-- ---- what is known

-- the task has come further, no compile machine of its deployment is new but of a slot of its own that was left, and
-- what
-- was compiled is
pub record Onward (old new : Known) (t : ℕ) : Type 0 where
  pub task : TaskOnward (old.task t) (new.task t)
  pub leftover : (name : SlotName) → is_leftover new t name ≡ true → is_leftover old t name ≡ true
  pub slots : (s : ℕ) → is_some (new.slot t s) ≡ true
      → (is_some (old.slot t s) ≡ true) ⊎ (is_slot_left old t s ≡ true)
  pub compiled : (key : Key) → is_compiled old key ≡ true → is_compiled new key ≡ true

all_more : (p q : KeyWork → Bool) → ((work : KeyWork) → p work ≡ true → q work ≡ true) → (items : List KeyWork)
    → list_all p items ≡ true → list_all q items ≡ true
all_more p q goes [] all = refl
all_more p q goes (work ∷ items) all =
    let parts : (p work ≡ true) × (list_all p items ≡ true) = and_parts (p work) (list_all p items) all in
    and_from (q work) (list_all q items) (goes work parts.0) (all_more p q goes items parts.1)

module _ (m : Moment) (t : ℕ) (h : KnownFacts m) (working : works m t ≡ true) (new : Known) (on : Onward m.known new t) where
  -- where no slot was left none is
  slots_done : ((s : ℕ) → is_slot_left m.known t s ≡ false) → (s : ℕ) → is_slot_left new t s ≡ false
  slots_done none s = by (is_some (new.slot t s)) refl
    where
      all : list_all (λ work. is_compiled new work.key) (keys_of (m.known.task t).goal) ≡ true
      all =
          all_more (λ work. is_compiled m.known work.key) (λ work. is_compiled new work.key)
          (λ work. on.compiled work.key) (keys_of (m.known.task t).goal) (all_compiled m t h working none)

      never : (work : KeyWork) → is_compiled new work.key ≡ true → may_take new t s work ≡ false
      never work is =
          (λ j. is_ready new work && (not (is j) && not (is_taken new t s work.key))) ∙ and_none (is_ready new work)

      no_key : is_some (next_key new t s) ≡ false
      no_key =
          (λ j. is_some (find (may_take new t s) (keys_of (on.task.alike.goal j))))
          ∙ ap is_some
          (none_next (λ work. is_compiled new work.key) (may_take new t s) never (keys_of (m.known.task t).goal) all)

      by : (b : Bool) → is_some (new.slot t s) ≡ b → is_slot_left new t s ≡ false
      by false is =
          (λ j. nat_lt s (length (slots_of (new.task t).goal)) && (is j || no_key j))
          ∙ and_none (nat_lt s (length (slots_of (new.task t).goal)))
      by true is = absurd (here (on.slots s is))
        where
          recorded : (slot : Option Slot) → m.known.slot t s ≡ slot → is_some slot ≡ true → ⊥
          recorded (Some it) at was = none_recorded m t h working none s it at
          recorded None at was = false≢true was

          here : (is_some (m.known.slot t s) ≡ true) ⊎ (is_slot_left m.known t s ≡ true) → ⊥
          here (inl was) = recorded (m.known.slot t s) refl was
          here (inr left) = false≢true (sym (none s) ∙ left)

  -- a task lists disks only where it has no later phase than theirs
  no_disks : (p : ℕ) → nat_lt 0 p ≡ true → (owner : Owner) → phase_of m.known t owner ≡ Some p
      → is_empty (m.known.task t).disks ≡ true
  no_disks p late owner at = by (lists m t h working)
    where
      no_instance : ListsDisks (m.known.task t) → (i : Inst) → instance_phase (m.known.task t) i ≡ None
      no_instance it i =
          λ j. if (none_is (m.known.task t).to_ping it.none_is_asked j && not ((m.known.task t).pinged i)) then Some 0
          else (if (none_is (m.known.task t).obsolete it.none_leaves j && not ((m.known.task t).gone i)) then Some 3
          else (if (none_is (m.known.task t).changed it.none_changes j && not (is_finished ((m.known.task t).upd i)))
          then Some (4 + stage_of (plan_in (m.known.task t).goal i)) else None))
        where
          none_is : (xs : List Inst) → is_empty xs ≡ true → is_among same_inst i xs ≡ false
          none_is [] empty = refl
          none_is (x ∷ xs) empty = absurd (false≢true empty)

      no_slot : ListsDisks (m.known.task t) → (task s : ℕ) → phase_of m.known t (Compile task s) ≡ None
      no_slot bare task s = own (task == t) refl
        where
          none_left : is_slot_left m.known t s ≡ false
          none_left =
              (λ j. nat_lt s (length (slots_of (bare.goal_is j)))
              && (is_some (m.known.slot t s) || is_some (next_key m.known t s)))
              ∙ grind (arith, nat_tests)

          none_over : is_leftover m.known t (record { task = task; slot = s }) ≡ false
          none_over =
              (λ j. not (task == t) && holds (λ it. option_eq bytes_eq (Some it.dep) (bare.dep_is j))
              (m.known.slot task s))
              ∙ by_slot (m.known.slot task s) (not (task == t))
            where
              by_slot : (slot : Option Slot) (other : Bool)
                  → (other && holds (λ it. option_eq bytes_eq (Some it.dep) None) slot) ≡ false
              by_slot (Some it) true = refl
              by_slot (Some it) false = refl
              by_slot None true = refl
              by_slot None false = refl

          own : (b : Bool) → (task == t) ≡ b → phase_of m.known t (Compile task s) ≡ None
          own true same =
              λ j. slot_by (same j) (none_left j) (is_leftover m.known t (record { task = task; slot = s }))
          own false other =
              λ j. slot_by (other j) (is_slot_left m.known t s) (none_over j)

      -- a disk has the first phase
      first : (b : Bool) → disk_by b ≡ Some p → ⊥
      first true is = let zero_is : 0 ≡ p = cc in false≢true ((λ j. nat_lt 0 (zero_is j)) ∙ late)
      first false is = absurd cc

      none_has : (phase : Option ℕ) → phase ≡ None → phase ≡ Some p → ⊥
      none_has phase none some = absurd cc

      never : ListsDisks (m.known.task t) → (o : Owner) → phase_of m.known t o ≡ Some p → ⊥
      never it (Instance i) is = none_has (instance_phase (m.known.task t) i) (no_instance it i) is
      never it (Compile task s) is = none_has (phase_of m.known t (Compile task s)) (no_slot it task s) is
      never it (Disk d) is = first (is_among eqb d (m.known.task t).disks && is_some (m.known.orphan d)) is

      by : Lists (m.known.task t) → is_empty (m.known.task t).disks ≡ true
      by (disks it) = absurd (never it owner at)
      by (instances it) = it.no_disks

  -- nothing is left before the phase of an owner, where nothing was
  pub none_onward : (p : ℕ) (owner : Owner) → phase_of m.known t owner ≡ Some p → NoneBefore m.known t p
      → NoneBefore new t p
  none_onward p owner at none (Instance i) =
      instance_onward (m.known.task t) (new.task t) on.task i p (none (Instance i))
  none_onward p owner at none (Compile task s) = own (task == t) refl (nat_lt 2 p) refl
    where
      name : SlotName
      name = record { task = task; slot = s }

      slot_left : nat_lt 2 p ≡ true → (s : ℕ) → is_slot_left m.known t s ≡ false
      slot_left late s = by (is_slot_left m.known t s) refl
        where
          its : is_before p (slot_by true (is_slot_left m.known t s) false) ≡ false
          its =
              sym (λ j. is_before p (slot_by (itself j) (is_slot_left m.known t s)
              (is_leftover m.known t (record { task = t; slot = s }))))
              ∙ none (Compile t s)
            where
              itself : (t == t) ≡ true
              itself = eq-eqb t t refl

          by : (b : Bool) → is_slot_left m.known t s ≡ b → b ≡ false
          by false is = refl
          by true is = absurd (false≢true (sym its ∙ ((λ j. is_before p (slot_by true (is j) false)) ∙ late)))

      left : (b c : Bool) → nat_lt 2 p ≡ b → (b ≡ true → c ≡ false) → is_before p (slot_by true c false) ≡ false
      left false true is never = is
      left false false is never = refl
      left true true is never = absurd (false≢true (sym (never refl)))
      left true false is never = refl

      over : (b : Bool) → is_leftover new t name ≡ b → (task == t) ≡ false
          → is_before p (slot_by false false (is_leftover new t name)) ≡ false
      over false is other = λ j. is_before p (slot_by false false (is j))
      over true is other =
          (λ j. is_before p (slot_by false false (is j)))
          ∙ sym (λ j. is_before p (slot_by (other j) (is_slot_left m.known t s) (on.leftover name is j)))
          ∙ none (Compile task s)

      own : (b : Bool) → (task == t) ≡ b → (c : Bool) → nat_lt 2 p ≡ c
          → is_before p (phase_of new t (Compile task s)) ≡ false
      own true same c late =
          (λ j. is_before p (slot_by (same j) (is_slot_left new t s) (is_leftover new t name)))
          ∙ left c (is_slot_left new t s) late (λ is. slots_done (slot_left (late ∙ is)) s)
      own false other c late =
          (λ j. is_before p (slot_by (other j) (is_slot_left new t s) (is_leftover new t name)))
          ∙ over (is_leftover new t name) refl other
  none_onward p owner at none (Disk d) = by (nat_lt 0 p) refl
    where
      first : (b : Bool) → nat_lt 0 p ≡ false → is_before p (disk_by b) ≡ false
      first true is = is
      first false is = refl

      by : (b : Bool) → nat_lt 0 p ≡ b → is_before p (phase_of new t (Disk d)) ≡ false
      by false is = first (is_among eqb d (new.task t).disks && is_some (new.orphan d)) is
      by true late =
          let unlisted : is_among eqb d (new.task t).disks ≡ false =
          (λ j. is_among eqb d (on.task.alike.disks j)) ∙ none_listed (is_among eqb d (m.known.task t).disks) refl in
          λ j. is_before p (disk_by (unlisted j && is_some (new.orphan d)))
        where
          none_listed : (b : Bool) → is_among eqb d (m.known.task t).disks ≡ b → b ≡ false
          none_listed false is = refl
          none_listed true is =
              absurd (no_disk d (m.known.task t).disks (no_disks p late owner at) is)
