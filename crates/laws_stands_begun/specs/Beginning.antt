-- What a call of a compile machine that is there needs to begin, beside what any call needs.
use Rattle.std.specs.Prelude.{◌≡◌, ℕ, Bool, false, is_some, true}
use Rattle.std.specs.Ordering.{nat_cmp}
use Rattle.bosh_base.specs.declared.call.Call.{Call}
use Rattle.bosh_base.specs.declared.call.Call.TheVariants.{CreateVm}
use Rattle.bosh_base.specs.declared.key.Key.{Key}
use Rattle.bosh_history.specs.Orders.{slot_cmp}
use Rattle.bosh_history.specs.Steps.{compiles}
use Rattle.bosh_history.specs.Words.{inserted}
use Rattle.bosh_records.specs.Recorded.{Recorded}
use Rattle.bosh_records.specs.Table.{found}
use Rattle.laws_stands.specs.Reading.{state_of}
use Rattle.laws_stands.specs.Told.{Told}
use Rattle.laws_stands_slots.specs.Slots.{named}

-- a call makes a machine
abbrev pub makes_machine : Call → Bool
makes_machine (CreateVm make disks) = true
makes_machine call = false

-- a compile machine is listed at its place
abbrev pub IsListed : Told → ℕ → ℕ → Type 0
IsListed told t s = inserted slot_cmp (named t s) told.known.machines ≡ told.known.machines

-- there is a place for the call, and for the key that it compiles
pub record HasRoom (it : Recorded) (number : ℕ) (call : Call) : Type 0 where
  pub for_call : is_some (found nat_cmp it.calls number) ≡ true
  pub for_key : (key : Key) → compiles key call ≡ true → is_some (state_of it key) ≡ true
