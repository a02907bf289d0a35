-- The levels as rounds compute them, each of which follows one dependency more.
use Rattle.std.specs.Prelude.{◌≡◌, ◌≢◌, ℕ, zero, suc, ◌≤◌, ◌<◌, Bool, true, false, Option, Some, List, Contains, length, slice_index, slice_index_or}
use Rattle.bosh_base.specs.declared.key.Key.{Key}
use Rattle.bosh_base.specs.declared.key.KeyWork.{KeyWork}
use Rattle.bosh_compile.specs.declared.level.Progress.{Progress}
use Rattle.bosh_compile.specs.declared.table.Node.{Node}
use Rattle.bosh_compile.specs.Level.{one_above}

-- the level of a work after some rounds
abbrev pub level_within : List KeyWork → ℕ → KeyWork → ℕ
level_within works zero work = 0
level_within works (suc rounds) work = one_above works (level_within works rounds) work

-- after as many rounds as there are works: without a cycle no chain of dependencies is longer
unfoldable pub last_level : List KeyWork → KeyWork → ℕ
last_level works work = level_within works (length works) work

-- the keys at which some work stands whose level the round has not found
pub record IsPending (nodes : List Node) (progress : List Progress) (round : ℕ) (pending : List Bool) : Type 0 where
  pub same_length : length pending ≡ length nodes
  pub marked : (place : ℕ) (d : Node) (e : Progress) → place < length nodes → (slice_index_or progress place e).level ≡ round → slice_index_or pending (slice_index_or nodes place d).key false ≡ true
  pub only : (key : ℕ) (d : Node) (e : Progress) → slice_index_or pending key false ≡ true → (place : ℕ) × (place < length nodes) × ((slice_index_or nodes place d).key ≡ key) × ((slice_index_or progress place e).level ≡ round)

-- the first place from a place on with an open key, or the end
pub record IsNextPending (needs : List ℕ) (pending : List Bool) (from next : ℕ) : Type 0 where
  pub after : from ≤ next
  pub within : next ≤ length needs
  pub closed : (k : ℕ) → from ≤ k → k < next → slice_index_or pending (slice_index needs k) false ≡ false
  pub stops : next < length needs → slice_index_or pending (slice_index needs next) false ≡ true

-- a work that came as far as the round goes on past the needs that are closed, and stands a level higher where one is open
pub record Advances (round : ℕ) (needs : List ℕ) (pending : List Bool) (old new : Progress) : Type 0 where
  pub within : new.met ≤ length needs
  pub closed : (k : ℕ) → old.met ≤ k → k < new.met → slice_index_or pending (slice_index needs k) false ≡ false
  pub other : old.level ≢ round → new.level ≡ old.level
  pub higher : old.level ≡ round → new.met < length needs → (new.level ≡ suc round) × (slice_index_or pending (slice_index needs new.met) false ≡ true)
  pub found : old.level ≡ round → new.met ≡ length needs → new.level ≡ round

-- each need is below the number of keys, and no more needs are met than there are
pub record IsFitting (nodes : List Node) (keys : ℕ) (progress : List Progress) : Type 0 where
  pub needs : (place k : ℕ) (d : Node) → place < length nodes → k < length (slice_index_or nodes place d).needs → slice_index (slice_index_or nodes place d).needs k < keys
  pub met : (place : ℕ) (d : Node) (e : Progress) → place < length nodes → (slice_index_or progress place e).met ≤ length (slice_index_or nodes place d).needs

pub record AllAdvance (round : ℕ) (nodes : List Node) (pending : List Bool) (old new : List Progress) : Type 0 where
  pub same_length : length new ≡ length old
  pub each : (place : ℕ) (d : Node) (e : Progress) → place < length nodes → Advances round (slice_index_or nodes place d).needs pending (slice_index_or old place e) (slice_index_or new place e)

-- the levels of all works whose key has the number are found within the rounds
abbrev pub Closed : List KeyWork → (Key → Option ℕ) → ℕ → ℕ → Type 0
Closed works number rounds n = (work : KeyWork) → Contains works work → number work.key ≡ Some n → level_within works rounds work < rounds

-- after some rounds each work has its level within them, and the needs that it has met are of works whose levels are found
pub record IsAfter (works : List KeyWork) (nodes : List Node) (number : Key → Option ℕ) (rounds : ℕ) (progress : List Progress) : Type 0 where
  pub same_length : length progress ≡ length works
  pub levels : (place : ℕ) (d : KeyWork) (e : Progress) → place < length works → (slice_index_or progress place e).level ≡ level_within works rounds (slice_index_or works place d)
  pub within : (place : ℕ) (d : Node) (e : Progress) → place < length works → (slice_index_or progress place e).met ≤ length (slice_index_or nodes place d).needs
  pub met : (place k : ℕ) (d : Node) (e : Progress) → place < length works → k < (slice_index_or progress place e).met → Closed works number rounds (slice_index (slice_index_or nodes place d).needs k)
