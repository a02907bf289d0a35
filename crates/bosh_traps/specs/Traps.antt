-- In which call the director stops: a trap waits for the k-th call of its method and owner after it was set, and is then
-- spent (this project's profile).
use Rattle.std.specs.Prelude.{ℕ, ◌+◌, ◌-◌, ◌^◌, ◌&&◌, nat_le, nat_lt, min, Bool, true, false, if◌then◌else◌, List, map, filter, find, Option, Some, None}
use Rattle.std.specs.Option.{option_map}
use Rattle.bosh_base.specs.contracts.method.MethodPartialEq.TheImpl as method_test
use Rattle.bosh_base.specs.declared.method.Method.{Method}
use Rattle.bosh_base.specs.declared.owner.Owner.{Owner}
use Rattle.bosh_fates.specs.Fates.{is_whose}
use Rattle.bosh_traps.specs.declared.trap.Armed.{Armed}
use Rattle.bosh_traps.specs.declared.trap.Firing.{Firing}
use Rattle.bosh_traps.specs.declared.trap.Trap.{Trap}
use Rattle.bosh_traps.specs.declared.trap.Trap.TheVariants.{Stop}

-- it waits for such calls
abbrev pub waits_for : Method → Owner → Trap → Bool
waits_for method owner (Stop before its whose k all) = method_test.ghosts.eq its method && is_whose whose owner
waits_for method owner trap = false

-- which of them is its call
abbrev pub place_of : Trap → ℕ
place_of (Stop before its whose k all) = k
place_of trap = 0

-- the next such call is its call
abbrev pub is_due : Method → Owner → Armed → Bool
is_due method owner armed = nat_le (place_of armed.trap - 1) armed.seen && waits_for method owner armed.trap

-- what happens there
abbrev pub firing_of : Trap → Firing
firing_of (Stop before its whose k all) = record { before = before; all = all }
firing_of trap = record { before = false; all = false }

-- the first that was set decides of those whose call it is
abbrev pub decision : Method → Owner → List Armed → Option Firing
decision method owner armed = option_map (λ it. firing_of it.trap) (find (is_due method owner) armed)

abbrev pub trap_after : Method → Owner → Armed → Armed
trap_after method owner armed =
    if waits_for method owner armed.trap then record armed { seen = min (armed.seen + 1) (2 ^ 64 - 1) } else armed

abbrev pub is_waiting : Armed → Bool
is_waiting armed = nat_lt armed.seen (place_of armed.trap)

-- the traps after a call: those that it matches have seen it, and those whose call it was leave
abbrev pub traps_after : Method → Owner → List Armed → List Armed
traps_after method owner armed = filter is_waiting (map (trap_after method owner) armed)
