-- Objects whose keys are given.
use Rattle.std.specs.Prelude.{ℕ, Bool, true, false, List, Option, Some, None, if◌then◌else◌}
use Rattle.std.specs.Str.{bytes_eq}
use Rattle.serde_json.specs.Data.{Data, null, Members, no_members, member}
use Rattle.serde_json.specs.Find.{get}
use Rattle.cpi_wire.specs.Reading.{◌>>=◌}

-- the value of the first member, where it has this key, and the other members
unfoldable pub first_member : List ℕ → Members → Option (Data × Members)
first_member key no_members = None
first_member key (member k d ms) = if bytes_eq k key then Some (d, ms) else None

-- the values of the first two members, where they have these keys, and the other members
unfoldable pub first_two : List ℕ → List ℕ → Members → Option (Data × Data × Members)
first_two key next ms = first_member key ms >>= λ a. first_member next a.1 >>= λ b. Some (a.0, b.0, b.1)

-- no members are left
abbrev pub is_last : Members → Bool
is_last no_members = true
is_last (member k d ms) = false

-- what was read, where no members are left
abbrev pub if_last : {A : Type 0} → Members → A → Option A
if_last ms read = if is_last ms then Some read else None

-- null stands for a value that is absent
abbrev pub or_null : Option Data → Data
or_null None = null
or_null (Some d) = d

-- the value at a key, null where it is absent
abbrev pub value_at : List ℕ → Data → Data
value_at key d = or_null (get key d)
