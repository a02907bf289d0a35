-- When the update of an instance of a group may begin, and whose turn it is (bosh.io, "Deployment manifest", "update").
use Rattle.std.specs.Prelude.{ℕ, Bool, true, ◌&&◌, ◌||◌, nat_lt, nat_le, min, List, Option, Some, None}
use Rattle.std.specs.Prelude.{if◌then◌else◌}
use Rattle.bosh_progress.specs.Tree.{first_marked, marked_in}
use Rattle.bosh_progress.specs.declared.rolling.Rolling.{Rolling}

-- the place, where there is one, is none of the first so many
abbrev pub is_none_below : ℕ → Option ℕ → Bool
is_none_below count (Some place) = nat_le count place
is_none_below count None = true

-- none of the first so many places is marked
abbrev pub are_past : ℕ → List Bool → Bool
are_past count marks = is_none_below count (first_marked marks)

-- one more is within the limit, and it is a canary or every canary is done; a canary counts against the limit too
abbrev pub is_allowed : Rolling → ℕ → Bool
is_allowed it place =
    nat_lt (marked_in it.busy) it.limit
    && (nat_lt place it.canaries || (are_past it.canaries it.waiting && are_past it.canaries it.busy))

abbrev pub least : Option ℕ → Option ℕ → Option ℕ
least (Some one) (Some other) = Some (min one other)
least (Some one) None = Some one
least None other = other

abbrev pub allowed : Rolling → Option ℕ → Option ℕ
allowed it (Some place) = if is_allowed it place then Some place else None
allowed it None = None

-- one that is idle, or the first that waits, where its update is allowed
abbrev pub first_claimable : Rolling → Option ℕ
first_claimable it = least (first_marked it.idle) (allowed it (first_marked it.waiting))
