-- What a call of a compile machine needs of what was told before it, and what is told once it ended.
use Rattle.std.specs.Prelude.{◌≡◌, ℕ, None, Option, Some, count_by, eqb, false, true}
use Rattle.std.specs.Option.{option_or}
use Rattle.bosh_base.specs.declared.answer.Answer.{Answer}
use Rattle.bosh_base.specs.declared.digest.Digest.{Digest}
use Rattle.bosh_base.specs.declared.entry.Begin.{Begin}
use Rattle.bosh_base.specs.declared.key.KeyWork.{KeyWork}
use Rattle.bosh_base.specs.declared.row.Doubt.{Doubt}
use Rattle.bosh_base.specs.declared.row.Vm.{Vm}
use Rattle.bosh_compile.specs.Readiness.{same_key}
use Rattle.bosh_history.specs.Calls.{failure_of, least_failure}
use Rattle.bosh_history.specs.Items.{is_leftover}
use Rattle.bosh_history.specs.Known.{Known, Slot, SlotName}
use Rattle.bosh_history.specs.Orders.{same_slot}
use Rattle.bosh_history.specs.Words as words
use Rattle.bosh_history.specs.Words.{at}
use Rattle.bosh_rows.specs.SoundSnapshot.{are_distinct, built_cmp}
use Rattle.laws_stands.specs.Told.{Told, is_going}
use Rattle.laws_stands.specs.WorkStands.{keys_in}

-- the name of a compile machine
abbrev pub named : ℕ → ℕ → SlotName
named t s = record { task = t; slot = s }

-- ---- what is told

-- of a compile machine
abbrev pub with_slot : ℕ → ℕ → Option Slot → (ℕ → ℕ → Option Slot) → ℕ → ℕ → Option Slot
with_slot t s slot slots = at eqb t (at eqb s slot (slots t)) slots

abbrev pub told_slot : ℕ → ℕ → Option Slot → Told → Told
told_slot t s slot told = record told { known = record told.known { slot = with_slot t s slot told.known.slot } }

-- it is there, by its number where one is told, and no doubt is left
abbrev pub slot_there : Option Vm → Slot → Slot
slot_there vm it = record it { vm = option_or vm it.vm; doubt = None }

-- a call leaves in doubt whether it is there
abbrev pub in_doubt_by : Doubt → Slot → Slot
in_doubt_by doubt it = record it { doubt = Some doubt }

-- a key is compiled
abbrev pub known_built : KeyWork → Digest → Known → Known
known_built work digest k = record k {
  built = words.inserted built_cmp (record { name = work.name; key = work.key; digest = digest }) k.built;
  digest = at same_key work.key (Some digest) k.digest;
}

abbrev pub told_built : KeyWork → Digest → Told → Told
told_built work digest told = record told { known = known_built work digest told.known }

-- a call is open no more, and its task may have failed by it
abbrev pub told_closed : Begin → Answer → Told → Told
told_closed b answer told = record told {
  known = record told.known {
    task = at eqb b.task (record (told.known.task b.task) {
      failed = least_failure (told.known.task b.task).failed (failure_of told.known b answer);
    }) told.known.task;
  };
  calls = at eqb b.n None told.calls;
}

-- ---- what has to hold before

-- no key of the goal of an open task stands twice
abbrev pub AreKeysApart : Told → Type 0
AreKeysApart told = (u : ℕ) → is_going told.known u ≡ true →
    are_distinct same_key (keys_in (told.known.task u).goal) ≡ true

-- a task may have calls of a compile machine: it is there, of the deployment of the task, and no other open task has it
-- left over
pub record AllowsSlot (told : Told) (n t s : ℕ) : Type 0 where
  pub row : Slot
  pub there : told.known.slot t s ≡ Some row
  pub dep : (told.known.task n).dep ≡ Some row.dep
  pub once : count_by (same_slot (named t s)) told.known.machines ≡ 1
  pub not_left : (u : ℕ) → eqb n u ≡ false → is_going told.known u ≡ true →
      is_leftover told.known u (named t s) ≡ false
