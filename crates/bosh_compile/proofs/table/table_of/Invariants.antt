use Rattle.std.proofs.Common.{◌≡◌, ℕ, ◌<◌, Some, get_or}
use Rattle.std.specs.Option.{IsSome}
use Rattle.bosh_base.specs.declared.key.Key.{Key}
use Rattle.bosh_base.specs.declared.key.KeyWork.{KeyWork}
use Rattle.bosh_compile.specs.Table.{StandsAt, place_in}
use Rattle.bosh_compile.proofs.table.table_of.Given as goal

-- the keys of the works so far have numbers, and each number is right
abbrev pub invariant-loop-place : goal.invariant-loop-place
invariant-loop-place l = record {
  listed : (k : ℕ) (d : KeyWork) → k < l.place → IsSome (place_in l.table (get_or l.works k d).key);
  right : (key : Key) (n : ℕ) → place_in l.table key ≡ Some n → StandsAt l.works key n;
}
