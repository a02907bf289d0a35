-- What is known of keys.
use Rattle.std.specs.Prelude.{◌≡◌, ℕ, Bool, false, List, Option, Some, None, is_some, option_map}
use Rattle.std.specs.BTreeMap.{get}
use Rattle.std.specs.List.{filter_map}
use Rattle.std.specs.Option.{option_and_then, option_map_or}
use Rattle.bosh_base.specs.contracts.key.KeyOrd.TheImpl as key_order
use Rattle.bosh_base.specs.declared.digest.Digest.{Digest}
use Rattle.std.specs.declared.cmp.Ordering.{Ordering}
use Rattle.bosh_base.specs.declared.key.Key.{Key}
use Rattle.bosh_base.specs.declared.key.KeyWork.{KeyWork}
use Rattle.bosh_base.specs.declared.snapshot.BuiltKey.{BuiltKey}
use Rattle.bosh_records.specs.Table.{altered}
use Rattle.bosh_records.specs.declared.keys.KeyState.{KeyState}
use Rattle.bosh_records.specs.declared.keys.Keys.{Keys}

-- in their order
abbrev pub key_cmp : Key → Key → Ordering
key_cmp = key_order.ghosts.cmp

abbrev pub state_in : Keys → Key → Option KeyState
state_in keys key = get key_cmp keys.by_key key

-- the digest of a compiled key
abbrev pub digest_in : Keys → Key → Option Digest
digest_in keys key = option_and_then (λ state. state.digest) (state_in keys key)

-- an open call compiles a key
abbrev pub is_compiling_in : Keys → Key → Bool
is_compiling_in keys key = option_map_or (λ state. is_some state.call) (state_in keys key) false

-- the compiled keys among entries, in their order
abbrev pub compiled_of : List (Key × KeyState) → List Key
compiled_of entries = filter_map (λ entry. option_map (λ _. entry.0) entry.1.digest) entries

abbrev pub built_key : Key → KeyState → Digest → BuiltKey
built_key key state digest = record { name = state.name; key = key; digest = digest }

-- what was compiled among entries, in the order of the keys
abbrev pub built_of : List (Key × KeyState) → List BuiltKey
built_of entries = filter_map (λ entry. option_map (built_key entry.0 entry.1) entry.1.digest) entries

-- ---- what changes

-- a key of a package that a task asks for
abbrev pub asked : List ℕ → KeyState
asked name = record { name = name; digest = None; call = None }

-- of one key something else is known, where something was known of it, and nothing changes elsewhere
abbrev pub IsChanged : Keys → Keys → Key → (KeyState → KeyState) → Type 0
IsChanged before after key change =
    after.by_key.entries ≡ altered key_cmp key change before.by_key.entries

-- it is compiled, as a package of this name
abbrev pub built_as : KeyWork → Digest → KeyState → KeyState
built_as work digest it = record it { name = work.name; digest = Some digest }
