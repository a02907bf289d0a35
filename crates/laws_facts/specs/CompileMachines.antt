-- Facts on one compile machine and its task.
use Rattle.std.specs.Prelude.{◌≡◌, ℕ, Bool, true, false, not, ◌&&◌, ◌==◌, Option, is_some, List, [], ◌∷◌, ◌++◌, codes}
use Rattle.std.specs.Option.{option_eq}
use Rattle.bosh_base.specs.declared.call.Call.{Call}
use Rattle.bosh_base.specs.declared.call.Call.TheVariants.{DeleteVm}
use Rattle.bosh_base.specs.declared.entry.Entry.{Entry}
use Rattle.bosh_base.specs.declared.goal.Goal.{Goal}
use Rattle.bosh_base.specs.declared.key.Key.{Key}
use Rattle.bosh_base.specs.declared.make.Make.{Make}
use Rattle.bosh_base.specs.declared.owner.Owner.TheVariants.{Compile}
use Rattle.bosh_compile.specs.Readiness.{same_key}
use Rattle.laws_facts.specs.Owners.{works}
use Rattle.laws_slots.specs.Slots.{has_shape, is_slot_created, is_slot_tied, owner_of}
use Rattle.laws_facts.specs.Words.{unless}
use Rattle.laws_row_facts.specs.Words.{implies, where_any}
use Rattle.bosh_history.specs.Items.{slots_of}
use Rattle.bosh_history.specs.Known.{Known, Slot, SlotName}
use Rattle.bosh_history.specs.Moments.{Moment, OpenCall}
use Rattle.bosh_history.specs.Slots.{is_compiled, is_ready}
use Rattle.bosh_history.specs.Steps.{compile_make, nth, work_for}
use Rattle.bosh_history.specs.Words.{holds}
use Rattle.bosh_rows.specs.Same.{same_make, same_owner}

-- ---- its record and the cloud

-- the tags of those that do not hold
abbrev pub slot_broken : List Entry → SlotName → Option Slot → List (List ℕ)
slot_broken effects name slot =
    unless (codes "slot shape") (where_any has_shape slot)
    ++ unless (codes "slot created") (where_any (is_slot_created effects (owner_of name)) slot)
    ++ unless (codes "slot tied") (is_slot_tied effects name slot)

-- ---- its record and its task

-- Where its task works, it is a slot of the goal: its key is one of the goal's, all that the key needs is compiled,
-- and its make is the slot's with what the key runs on.
abbrev pub is_for_work : Known → Option Goal → Option Key → Bool
is_for_work k goal key = holds (λ it. holds (is_ready k) (work_for goal it)) key

-- the make is that of the slot, for the key
abbrev pub is_make_for : Option Key → Make → Make → Bool
is_make_for key make made = holds (λ it. same_make made (compile_make it make)) key

-- the key and the make are those of the goal
abbrev pub is_slot_of_goal : Moment → ℕ → ℕ → Slot → Bool
is_slot_of_goal m t s it =
    is_for_work m.known (m.known.task t).goal it.key
    && holds (λ make. is_make_for it.key make it.make) (nth s (slots_of (m.known.task t).goal))

-- .. where its task works
abbrev pub is_slot_its_tasks : Moment → ℕ → ℕ → Bool
is_slot_its_tasks m t s = implies (works m t) (where_any (is_slot_of_goal m t s) (m.known.slot t s))

-- Where its task works and no call of it failed, a call in doubt is its open call.
abbrev pub is_open_for_slot : ℕ → ℕ → Option OpenCall → Bool
is_open_for_slot t s call = holds (λ it. same_owner it.begin.owner (Compile t s)) call

-- a call in doubt is open
abbrev pub is_slot_doubt_open : Moment → ℕ → ℕ → Bool
is_slot_doubt_open m t s =
    implies (works m t && not (is_some (m.known.task t).failed))
    (where_any (λ it. where_any (λ d. is_open_for_slot t s (m.calls d.n)) it.doubt) (m.known.slot t s))

-- Where its task works, no other slot of the task is for its key, and a slot in doubt of a deletion has its key
-- compiled.
abbrev pub is_for : Option Key → Slot → Bool
is_for key it = option_eq same_key key it.key

-- the other slot is for another key
abbrev pub is_slot_alone : Moment → ℕ → ℕ → ℕ → Bool
is_slot_alone m t s other =
    implies (works m t && not (s == other))
    (where_any (λ it. not (holds (is_for it.key) (m.known.slot t other))) (m.known.slot t s))

-- its deletion is in doubt
abbrev pub is_being_deleted : Slot → Bool
is_being_deleted it = holds (λ d. deletes d.call) it.doubt
  where
    deletes : Call → Bool
    deletes (DeleteVm vm) = true
    deletes call = false

-- where it is being deleted, its key is compiled
abbrev pub is_deleted_compiled : Moment → ℕ → ℕ → Bool
is_deleted_compiled m t s =
    implies (works m t)
    (where_any (λ it. implies (is_being_deleted it) (holds (is_compiled m.known) it.key)) (m.known.slot t s))

-- the facts on a compile machine and its task
pub record SlotWorkFacts (m : Moment) (t s : ℕ) : Type 0 where
  -- it is one of the slots of its task's goal
  pub of_goal : is_slot_its_tasks m t s ≡ true
  -- its doubt is that of an open call, where no call of the task failed
  pub doubt_open : is_slot_doubt_open m t s ≡ true
  -- no other slot of the task is for its key
  pub alone : (other : ℕ) → is_slot_alone m t s other ≡ true
  -- a machine that is being deleted has its key compiled
  pub compiled : is_deleted_compiled m t s ≡ true

-- the tags of those that do not hold
abbrev pub slot_work_broken : Moment → SlotName → List (List ℕ)
slot_work_broken m name =
    unless (codes "slot of goal") (is_slot_its_tasks m name.task name.slot)
    ++ unless (codes "slot doubt open") (is_slot_doubt_open m name.task name.slot)
    ++ unless (codes "slot alone") (list_all_others m.known.machines && is_deleted_compiled m name.task name.slot)
  where
    list_all_others : List SlotName → Bool
    list_all_others [] = true
    list_all_others (other ∷ names) =
        implies (other.task == name.task) (is_slot_alone m name.task name.slot other.slot) && list_all_others names
