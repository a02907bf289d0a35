-- How works are gathered, each key once: a list of works, and the set of their keys.
use Rattle.std.specs.Prelude.{◌≡◌, Bool, List, [], ◌∷◌, ◌++◌, fold, if◌then◌else◌}
use Rattle.std.specs.BTreeSet.{BTreeSet, contains}
use Rattle.std.specs.List.{list_any}
use Rattle.bosh_base.specs.declared.key.Key.{Key}
use Rattle.bosh_base.specs.declared.key.KeyWork.{KeyWork}
use Rattle.bosh_compile.specs.CompileOrder.{key_cmp}
use Rattle.bosh_compile.specs.Readiness.{same_key}
use Rattle.bosh_keys.specs.declared.gathered.Gathered.{Gathered}

-- whether one of the works has the key
abbrev pub has_work : Key → List KeyWork → Bool
has_work key works = list_any (λ work. same_key work.key key) works

-- one more work, unless its key is there
abbrev pub with_work : List KeyWork → KeyWork → List KeyWork
with_work works work = if has_work work.key works then works else works ++ work ∷ []

-- some more works
abbrev pub with_works : List KeyWork → List KeyWork → List KeyWork
with_works works more = fold with_work works more

-- of works of one key the first
abbrev pub each_once : List KeyWork → List KeyWork
each_once works = with_works [] works

-- the set has the keys of the works
abbrev pub AreSeen : List KeyWork → BTreeSet Key → Type 0
AreSeen works seen = (key : Key) → contains key_cmp seen key ≡ has_work key works

-- these works and these keys that are asked for are gathered
pub record IsGathered (works : List KeyWork) (asked : List Key) (gathered : Gathered) : Type 0 where
  pub works_are : gathered.works.items ≡ works
  pub seen_are : AreSeen works gathered.seen
  pub asked_are : gathered.asked.items ≡ asked

-- some works and some keys that are asked for were gathered, after what was gathered before
pub record Adds (works : List KeyWork) (asked : List Key) (old new : Gathered) : Type 0 where
  pub gathers :
      (before : List KeyWork) (asked_before : List Key) → IsGathered before asked_before old
      → IsGathered (with_works before works) (asked_before ++ asked) new
