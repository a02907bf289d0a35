-- What a table finds under a name.
use Rattle.std.specs.Prelude.{◌≡◌, ℕ, List, Option, Some, None, cond, find, option_map}
use Rattle.std.specs.BTreeMap.{BTreeMap, get_by}
use Rattle.std.specs.Cmp.Lexicographic.{slice_cmp}
use Rattle.std.specs.Option.{option_copied, option_or}
use Rattle.std.specs.Ordering.{nat_cmp}
use Rattle.std.specs.Str.{bytes_eq}
use denote.Ref.{Bor}

abbrev pub found_at : {V : Type 0} → BTreeMap (Bor (List ℕ)) V → List ℕ → Option V
found_at table name = get_by (λ k. slice_cmp nat_cmp name k.now) table

-- the first of several that has the name
abbrev pub first_named : {A : Type 0} → (A → List ℕ) → List A → List ℕ → Option A
first_named name_of all name = find (λ a. bytes_eq (name_of a) name) all

-- a value is put under a name, unless the name has one
abbrev pub IsAdded : {V : Type 0} → BTreeMap (Bor (List ℕ)) V → List ℕ → V → BTreeMap (Bor (List ℕ)) V → Type 0
IsAdded {V = V} old name value new =
    (key : List ℕ) → found_at {V = V} new key ≡ option_or (found_at old key) (cond (bytes_eq name key) (Some value) None)

-- of several things, each is found under its name, and of two of one name the first
abbrev pub IsTable : {A : Type 0} → (A → List ℕ) → List A → BTreeMap (Bor (List ℕ)) (Bor A) → Type 0
IsTable {A = A} name_of all table =
    (name : List ℕ) → option_copied {T = A} (found_at table name) ≡ first_named name_of all name
