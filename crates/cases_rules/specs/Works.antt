-- Works that need only works with lower ranks, so that they have no cycle.
use Rattle.std.specs.Prelude.{ℕ, ◌<◌, All, slice_index}
use Rattle.bosh_base.specs.declared.key.Key.{Key}
use Rattle.bosh_base.specs.declared.key.KeyWork.{KeyWork}

-- the rank of a key is the first byte of its fingerprint
abbrev pub rank_of : Key → ℕ
rank_of key = slice_index key.fingerprint.0 0

-- each need of the work has a lower rank
abbrev pub NeedsLower : KeyWork → Type 0
NeedsLower work = All (λ key. rank_of key < rank_of work.key) work.deps
