-- How the needed keys are found: a table of those that are marked.
use Rattle.std.specs.Prelude.{◌≡◌, ℕ, ◌≤◌, ◌<◌, true, ◌&&◌, Bool, not, List, Contains, filter, length, slice_index_or}
use Rattle.std.specs.BTreeMap.{BTreeMap}
use denote.Ref.{Bor}
use Rattle.bosh_base.specs.declared.key.Key.{Key}
use Rattle.bosh_base.specs.declared.key.KeyWork.{KeyWork}
use Rattle.bosh_compile.specs.KeySet.{has_key}
use Rattle.bosh_compile.specs.Readiness.{is_among}
use Rattle.bosh_needed.specs.Needed.{IsNeeded}

abbrev pub Marks : Type 0
Marks = BTreeMap (Bor Key) (Unit {0})

-- what a work needs compiled before is marked, where its own key is
abbrev pub IsFollowed : Marks → KeyWork → Type 0
IsFollowed marks work = has_key marks work.key ≡ true → (key : Key) → Contains work.deps key → has_key marks key ≡ true

-- the marked keys are needed, and those asked for are marked; the works from a place on are followed
pub record AreMarked (works : List KeyWork) (asked : List Key) (marks : Marks) (from : ℕ) : Type 0 where
  pub needed : (key : Key) → has_key marks key ≡ true → IsNeeded works asked key
  pub asked_for : (key : Key) → Contains asked key → has_key marks key ≡ true
  pub followed : (place : ℕ) (d : KeyWork) → from ≤ place → place < length works → IsFollowed marks (slice_index_or works place d)

abbrev pub is_wanted : Marks → List Key → KeyWork → Bool
is_wanted marks compiled work = has_key marks work.key && not (is_among work.key compiled)

abbrev pub wanted : Marks → List Key → List KeyWork → List KeyWork
wanted marks compiled works = filter (is_wanted marks compiled) works

-- by some marks
pub record IsWanted (works : List KeyWork) (asked compiled : List Key) (all : List KeyWork) : Type 0 where
  pub marks : Marks
  pub are_marked : AreMarked works asked marks 0
  pub is_all : all ≡ wanted marks compiled works
