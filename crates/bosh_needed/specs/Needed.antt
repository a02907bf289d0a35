-- Which packages are to be compiled for a deployment.
use Rattle.std.specs.Prelude.{◌≡◌, ◌≤◌, ℕ, false, List, Contains, cond, sum_by}
use Rattle.bosh_base.specs.declared.key.Key.{Key}
use Rattle.bosh_base.specs.declared.key.KeyWork.{KeyWork}
use Rattle.bosh_compile.specs.CompileOrder.{IsInCompileOrder}
use Rattle.bosh_compile.specs.Readiness.{is_among, same_key}

-- a key is needed where it is asked for, or where a needed one of the works needs it compiled before
pub data IsNeeded (works : List KeyWork) (asked : List Key) : Key → Type 0 where
  at_once : (key : Key) → Contains asked key → IsNeeded works asked key
  by : (work : KeyWork) (key : Key) → Contains works work → IsNeeded works asked work.key → Contains work.deps key → IsNeeded works asked key

-- how many works have a key
abbrev pub how_many : Key → List KeyWork → ℕ
how_many key works = sum_by (λ work. cond (same_key work.key key) 1 0) works

-- no two works have one key
abbrev pub StandOnce : List KeyWork → Type 0
StandOnce works = (key : Key) → how_many key works ≤ 1

-- the works of what is needed and not compiled, each key once, in the order of compilation
pub record AreNeeded (works : List KeyWork) (asked compiled : List Key) (keys : List KeyWork) : Type 0 where
  pub from_works : (work : KeyWork) → Contains keys work → Contains works work
  pub needed : (work : KeyWork) → Contains keys work → IsNeeded works asked work.key
  pub uncompiled : (work : KeyWork) → Contains keys work → is_among work.key compiled ≡ false
  pub all :
      (work : KeyWork) → Contains works work → IsNeeded works asked work.key → is_among work.key compiled ≡ false
      → Contains keys work
  pub once : StandOnce keys
  pub ordered : IsInCompileOrder keys
