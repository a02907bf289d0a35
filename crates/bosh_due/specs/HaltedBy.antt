-- What halted the director, and what the next stop may then find (this project's profile).
use Rattle.std.specs.Prelude.{◌≡◌, ◌⊎◌, ◌++◌, ℕ, Bool, true, false, List, [], ◌∷◌, Option, Some, None, is_none, is_some}
use Rattle.bosh_base.specs.declared.entry.Entry.{Entry}
use Rattle.bosh_base.specs.declared.moves.Stop as stop

-- what halted the director
pub data HaltedBy : Type 0 where
  -- neither a line nor a call did
  no_line : HaltedBy
  -- a line at an append, whose entry is then there, or is not; where the store failed beside, either
  in_append : Option Bool → HaltedBy
  -- A call did: a line stopped the director in it, or the cloud's store failed. These open calls had their effects by then,
  -- and it is not known of one more, at which the cloud's store failed.
  in_call : List ℕ → Option ℕ → HaltedBy

-- ---- an append

-- the entry of the append is found where it is there
abbrev pub is_found_as : Option Bool → Option Entry → Bool
is_found_as None kept = true
is_found_as (Some true) kept = is_some kept
is_found_as (Some false) kept = is_none kept

-- ---- a call

-- just these calls are found to have had their effects, and it may be one more
abbrev pub AreFoundAs : List ℕ → Option ℕ → List ℕ → Type 0
AreFoundAs took None found = found ≡ took
AreFoundAs took (Some last) found = (found ≡ took) ⊎ (found ≡ took ++ last ∷ [])

-- ---- all

-- What is known is found; where neither a line nor a call halted the director, what was under way alone settles it.
abbrev pub MayFind : HaltedBy → stop.Stop → Type 0
MayFind no_line found = Unit {0}
MayFind (in_append is_there) found = (is_found_as is_there found.kept ≡ true) × (found.took ≡ [])
MayFind (in_call took last) found = (found.kept ≡ None) × AreFoundAs took last found.took
