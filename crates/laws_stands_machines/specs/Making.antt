-- What a compile machine needs to be recorded that is being made, and what is told once it is.
use Rattle.std.specs.Prelude.{◌≡◌, ◌≤◌, ◌+◌, ◌==◌, ℕ, None, Some, count_by, eqb, false, is_some, true}
use Rattle.bosh_base.specs.declared.owner.Owner.TheVariants.{Compile}
use Rattle.bosh_compile.specs.Readiness.{same_key}
use Rattle.bosh_history.specs.Known.{Slot, SlotName}
use Rattle.bosh_history.specs.Orders.{same_slot, slot_cmp}
use Rattle.bosh_history.specs.Words.{inserted, is_among}
use Rattle.bosh_records.specs.Readers.{machine_cmp}
use Rattle.bosh_records.specs.Recorded.{Recorded}
use Rattle.bosh_records.specs.Table.{found}
use Rattle.bosh_records.specs.declared.machines.Machine.{Machine}
use Rattle.bosh_rows.specs.SoundSnapshot.{are_distinct}
use Rattle.bosh_work.specs.declared.work.Work.{Work}
use Rattle.laws_stands.specs.Linked.{same_machine}
use Rattle.laws_stands.specs.Reading.{work_of}
use Rattle.laws_stands.specs.Stands.{key_place, row_of_slot}
use Rattle.laws_stands.specs.Told.{Told, is_going, is_idle}
use Rattle.laws_stands.specs.WorkStands.{keys_in}
use Rattle.laws_stands_slots.specs.Slots.{named, with_slot}

-- the machine is recorded, and nothing else is told anew
abbrev pub told_made : ℕ → ℕ → Slot → Told → Told
told_made t s slot told = record told {
  known = record told.known {
    machines = inserted slot_cmp (named t s) told.known.machines;
    slot = with_slot t s (Some slot) told.known.slot;
  };
}

-- what is recorded of it
abbrev pub machine_of_slot : Told → ℕ → ℕ → Slot → Machine
machine_of_slot told t s slot =
    record { row = row_of_slot t s slot; key = key_place told.known t slot.key; sweep = None; call = None }

-- It is not recorded yet, has no open call, and there is a place for it. It is of the deployment of its task, which is
-- open, wants no key twice and has fewer machines than can be counted; no other open task is of this deployment, and none
-- is to sweep it.
pub record AllowsMake (told : Told) (it : Recorded) (t s : ℕ) (slot : Slot) : Type 0 where
  pub none : told.known.slot t s ≡ None
  pub unlisted : is_among same_slot (named t s) told.known.machines ≡ false
  pub idle : is_idle told (Compile t s) ≡ true
  pub dep : (told.known.task t).dep ≡ Some slot.dep
  pub apart : are_distinct same_key (keys_in (told.known.task t).goal) ≡ true
  pub few : count_by (λ (name : SlotName). name.task == t) told.known.machines + 1 ≤ 18446744073709551615
  pub alone : (u : ℕ) → eqb t u ≡ false → is_going told.known u ≡ true →
      (told.known.task u).dep ≡ Some slot.dep → ⊥
  pub unswept : (u : ℕ) (w : Work) → work_of it u ≡ Some w →
      is_among same_machine (record { task = t; slot = s }) w.sweep.items ≡ false
  pub room : is_some (found machine_cmp it.machines (record { task = t; slot = s })) ≡ true
