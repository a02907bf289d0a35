-- What a compile machine needs to be recorded no more, and what is told once it is not.
use Rattle.std.specs.Prelude.{◌≡◌, ℕ, None, Some, count_by, false, true}
use Rattle.bosh_base.specs.declared.key.Key.{Key}
use Rattle.bosh_base.specs.declared.owner.Owner.TheVariants.{Compile}
use Rattle.bosh_compile.specs.Readiness.{same_key}
use Rattle.bosh_history.specs.Known.{Slot}
use Rattle.bosh_history.specs.Orders.{same_slot}
use Rattle.bosh_history.specs.Slots.{is_taken}
use Rattle.bosh_history.specs.Words.{without}
use Rattle.bosh_rows.specs.SoundSnapshot.{are_distinct}
use Rattle.laws_stands.specs.Told.{Told, is_going, is_idle}
use Rattle.laws_stands.specs.WorkStands.{keys_in}
use Rattle.laws_stands_slots.specs.Slots.{named, with_slot}

-- the machine is not there
abbrev pub told_dropped : ℕ → ℕ → Told → Told
told_dropped t s told = record told {
  known = record told.known {
    machines = without same_slot (named t s) told.known.machines;
    slot = with_slot t s None told.known.slot;
  };
}

-- it is there, listed once, and has no open call; while its task is open, that has its deployment, no key of its goal
-- stands twice, and no other machine of it is for the key
pub record AllowsDrop (told : Told) (t s : ℕ) : Type 0 where
  pub row : Slot
  pub there : told.known.slot t s ≡ Some row
  pub once : count_by (same_slot (named t s)) told.known.machines ≡ 1
  pub idle : is_idle told (Compile t s) ≡ true
  pub dep : is_going told.known t ≡ true → (told.known.task t).dep ≡ Some row.dep
  pub keys : is_going told.known t ≡ true → are_distinct same_key (keys_in (told.known.task t).goal) ≡ true
  pub alone : (key : Key) → row.key ≡ Some key → is_going told.known t ≡ true → is_taken told.known t s key ≡ false

-- a machine may be told to be gone by the answer of a call of it: while its task is open, that has its deployment, and
-- no other machine of it is for the key
pub record AllowsGoing (told : Told) (t s : ℕ) (row : Slot) : Type 0 where
  pub dep : is_going told.known t ≡ true → (told.known.task t).dep ≡ Some row.dep
  pub alone : (key : Key) → row.key ≡ Some key → is_going told.known t ≡ true → is_taken told.known t s key ≡ false
