-- The numbers of keys: a key's number is the place of a work with that key.
use Rattle.std.specs.Prelude.{◌≡◌, ℕ, ◌<◌, List, length, All, Option, Some, IsSome, map}
use Rattle.std.specs.List.{flat_map, HoldsAt}
use Rattle.std.specs.Option.{option_to_list, unwrap_or}
use Rattle.std.specs.BTreeMap.{BTreeMap, get_by}
use denote.Ref.{Bor}
use Rattle.bosh_base.specs.declared.key.Key.{Key}
use Rattle.bosh_base.specs.declared.key.KeyWork.{KeyWork}
use Rattle.bosh_compile.specs.declared.table.Node.{Node}
use Rattle.bosh_compile.specs.CompileOrder.{key_cmp}

-- a work with the key stands at the place
pub record StandsAt (works : List KeyWork) (key : Key) (place : ℕ) : Type 0 where
  pub in_range : place < length works
  pub has_key : HoldsAt (λ work. work.key ≡ key) works place

-- each work's key has a number, and a number is the place of a work with the key
pub record IsNumbering (works : List KeyWork) (number : Key → Option ℕ) : Type 0 where
  pub listed : All (λ work. IsSome (number work.key)) works
  pub right : (key : Key) (n : ℕ) → number key ≡ Some n → StandsAt works key n

-- the numbers of those keys that have one
abbrev pub numbers_by : (Key → Option ℕ) → List Key → List ℕ
numbers_by number keys = flat_map (λ key. option_to_list (number key)) keys

-- the work by numbers
abbrev pub node_by : (Key → Option ℕ) → KeyWork → Node
node_by number work = record { key = unwrap_or (number work.key) 0; needs = numbers_by number work.deps }

-- the nodes are the works by numbers
pub record IsGraph (works : List KeyWork) (nodes : List Node) : Type 0 where
  pub number : Key → Option ℕ
  pub is_numbering : IsNumbering works number
  pub is_nodes : nodes ≡ map (node_by number) works

abbrev pub place_in : BTreeMap (Bor Key) ℕ → Key → Option ℕ
place_in table key = get_by (λ k. key_cmp key k.now) table

abbrev pub IsTable : List KeyWork → BTreeMap (Bor Key) ℕ → Type 0
IsTable works table = IsNumbering works (place_in table)
