-- Which calls fail: a fate waits for the k-th call of its method and owner after it was set, and is then spent
-- (this project's profile).
use Rattle.std.specs.Prelude.{ℕ, ◌-◌, ◌==◌, ◌&&◌, not, Bool, true, if◌then◌else◌, Option, Some, None, List, filter, map, find, count_by}
use Rattle.std.specs.Option.{option_map}
use Rattle.bosh_base.specs.contracts.method.MethodPartialEq.TheImpl as method_test
use Rattle.bosh_base.specs.contracts.owner.OwnerPartialEq.TheImpl as owner_test
use Rattle.bosh_base.specs.declared.method.Method.{Method}
use Rattle.bosh_base.specs.declared.owner.Owner.{Owner}
use Rattle.bosh_fates.specs.declared.fate.Doom.{Doom}
use Rattle.bosh_fates.specs.declared.fate.Fate.{Fate}

-- a fate without an owner matches every owner
abbrev pub is_whose : Option Owner → Owner → Bool
is_whose (Some whose) owner = owner_test.ghosts.eq whose owner
is_whose None owner = true

abbrev pub matches : Method → Owner → Doom → Bool
matches method owner doom = method_test.ghosts.eq doom.method method && is_whose doom.owner owner

-- a call that it waits for is the one
abbrev pub is_due : Method → Owner → Doom → Bool
is_due method owner doom = doom.calls == 1 && matches method owner doom

-- the fate that decides: the first that was set of those that are due
abbrev pub decision : Method → Owner → List Doom → Option Fate
decision method owner dooms = option_map (λ doom. doom.fate) (find (is_due method owner) dooms)

-- how many are due
abbrev pub due_count : Method → Owner → List Doom → ℕ
due_count method owner dooms = count_by (is_due method owner) dooms

-- one call nearer
abbrev pub nearer : Method → Owner → Doom → Doom
nearer method owner doom = if matches method owner doom then record doom { calls = doom.calls - 1 } else doom

-- it waits for a call that is still to come
abbrev pub is_waiting : Doom → Bool
is_waiting doom = not (doom.calls == 0)

-- the fates after a call: those that match are one nearer, and those that were due are spent and leave
abbrev pub fates_after : Method → Owner → List Doom → List Doom
fates_after method owner dooms = filter is_waiting (map (nearer method owner) dooms)
