-- What a table has by its keys.
use Rattle.std.specs.Prelude.{ℕ, Bool, false, List, Option, Some, None, find, is_some, map, nat_lt, not, option_map, if◌then◌else◌}
use Rattle.std.specs.BTreeMap.{BTreeMap, get, insert_entry, is_at}
use Rattle.std.specs.List.{filter_map}
use Rattle.std.specs.Map.{lookup, remove_entry, set_value}
use Rattle.std.specs.Option.{option_and_then, option_map_or}
use Rattle.std.specs.declared.cmp.Ordering.{Ordering}

-- what stands in the place of a key, where there is one that is not free
abbrev pub thing_at : {K V : Type 0} → (K → K → Ordering) → BTreeMap K (Option V) → K → Option V
thing_at cmp places key = option_and_then (λ place. place) (get cmp places key)

-- what stands in the places that are not free, in the order of the keys
abbrev pub things : {K V : Type 0} → List (K × Option V) → List V
things places = filter_map (λ place. place.1) places

-- what entries have at a key
abbrev pub found : {K X : Type 0} → (K → K → Ordering) → List (K × X) → K → Option X
found cmp entries key = lookup (is_at (cmp key)) entries

-- what stands in the place of a key among entries, where there is one that is not free
abbrev pub thing_in : {K V : Type 0} → (K → K → Ordering) → List (K × Option V) → K → Option V
thing_in cmp places key = option_and_then (λ place. place) (found cmp places key)

-- a number is not above the last one that was looked at
abbrev pub is_past : Option ℕ → ℕ → Bool
is_past None number = false
is_past (Some last) number = not (nat_lt last number)

-- the first of the numbers that have a place and were not looked at yet
abbrev pub next_after : {V : Type 0} → List (ℕ × Option V) → Option ℕ → Option ℕ
next_after places last = option_map (λ place. place.0) (find (λ place. not (is_past last place.0)) places)

-- ---- what changes

-- something else at a key, where there is anything, and all else as before
abbrev pub altered : {K X : Type 0} → (K → K → Ordering) → K → (X → X) → List (K × X) → List (K × X)
altered cmp key change entries =
    option_map_or (λ it. set_value (is_at (cmp key)) entries (change it)) (lookup (is_at (cmp key)) entries) entries

-- something else in the place of a key, where it is not free
abbrev pub changed : {K V : Type 0} → (K → K → Ordering) → K → (V → V) → List (K × Option V) → List (K × Option V)
changed cmp key change places = altered cmp key (option_map change) places

-- a thing in the place of its key, where there is one
abbrev pub put_at : {K V : Type 0} → (K → K → Ordering) → K → V → List (K × Option V) → List (K × Option V)
put_at cmp key value places = altered cmp key (λ _. Some value) places

-- no place for a key any more
abbrev pub without : {K X : Type 0} → (K → K → Ordering) → K → List (K × X) → List (K × X)
without cmp key entries = remove_entry (is_at (cmp key)) entries

-- room for a key, with what stands there at first, where it has none yet
abbrev pub with_room : {K X : Type 0} → (K → K → Ordering) → K → X → List (K × X) → List (K × X)
with_room cmp key first entries =
    if is_some (lookup (is_at (cmp key)) entries) then entries else insert_entry cmp entries key first

-- something else in each place that is not free
abbrev pub each_thing : {K V : Type 0} → (V → V) → List (K × Option V) → List (K × Option V)
each_thing change places = map (λ place. (place.0, option_map change place.1)) places
