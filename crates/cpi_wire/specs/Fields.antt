-- Structs and the fields of calls in JSON (this project's profile): arrays of their fields, in order.
use Rattle.std.specs.Prelude.{ℕ, ◌+◌, Option, Some, None, if◌then◌else◌}
use Rattle.std.specs.Option.{is_some}
use Rattle.serde_json.specs.Data.{Data, array, no_items, item}
use Rattle.serde_json.specs.Find.{at}
use Rattle.cpi_wire.specs.Reading.{◌>>=◌, Reader}

-- the field at a place, counted from 0
abbrev pub field : {A : Type 0} → Reader A → ℕ → Reader A
field reader place d = at place d >>= reader

-- the fields at a place and after it
abbrev pub pair_at : {A B : Type 0} → Reader A → Reader B → ℕ → Reader (A × B)
pair_at r s place d = field r place d >>= λ a. field s (place + 1) d >>= λ b. Some (a, b)

-- what is read of an array of so many fields
abbrev pub of_fields : {A : Type 0} → ℕ → Data → Option A → Option A
of_fields count d read = if is_some (at count d) then None else read

-- one field
abbrev pub one_data : {A : Type 0} → (A → Data) → A → Data
one_data f a = array (item (f a) no_items)

abbrev pub one_from : {A : Type 0} → Reader A → Reader A
one_from r d = of_fields 1 d (field r 0 d)

-- two fields
abbrev pub two_data : {A B : Type 0} → (A → Data) → (B → Data) → A → B → Data
two_data f g a b = array (item (f a) (item (g b) no_items))

abbrev pub two_from : {A B : Type 0} → Reader A → Reader B → Reader (A × B)
two_from r s d = of_fields 2 d (pair_at r s 0 d)

-- three fields
abbrev pub three_data : {A B C : Type 0} → (A → Data) → (B → Data) → (C → Data) → A → B → C → Data
three_data f g h a b c = array (item (f a) (item (g b) (item (h c) no_items)))

abbrev pub three_from : {A B C : Type 0} → Reader A → Reader B → Reader C → Reader (A × B × C)
three_from r s t d = of_fields 3 d (pair_at r s 0 d >>= λ p. field t 2 d >>= λ c. Some (p.0, p.1, c))

-- five fields
abbrev pub five_data : {A B C D E : Type 0} → (A → Data) → (B → Data) → (C → Data) → (D → Data) → (E → Data) → A → B → C → D → E → Data
five_data f g h i j a b c d e = array (item (f a) (item (g b) (item (h c) (item (i d) (item (j e) no_items)))))

abbrev pub five_from : {A B C D E : Type 0} → Reader A → Reader B → Reader C → Reader D → Reader E → Reader (A × B × C × D × E)
five_from r s t u v x = of_fields 5 x (pair_at r s 0 x >>= λ p. pair_at t u 2 x >>= λ q. field v 4 x >>= λ e. Some (p.0, p.1, q.0, q.1, e))
