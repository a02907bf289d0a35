-- The order in which packages are compiled (bosh.io, "Packages": a package's dependencies come first; the rest is this project's profile).
use Rattle.std.specs.Prelude.{ℕ, ◌≤◌, ◌<◌, List, length, slice_index_or}
use Rattle.std.specs.declared.cmp.Ordering.{Ordering}
use Rattle.std.specs.Ordering.{nat_cmp, ordering_then}
use Rattle.std.specs.Cmp.Lexicographic.{slice_cmp}
use Rattle.std.specs.List.Sorted.{IsSorted}
use Rattle.bosh_base.specs.declared.key.Key.{Key}
use Rattle.bosh_base.specs.declared.key.KeyWork.{KeyWork}
use Rattle.bosh_compile.specs.Level.{Needs, IsLevel}

-- by contents, then os, then version
abbrev pub key_cmp : Key → Key → Ordering
key_cmp a b = ordering_then (slice_cmp nat_cmp a.fingerprint.0 b.fingerprint.0) (ordering_then (slice_cmp nat_cmp a.os b.os) (slice_cmp nat_cmp a.version b.version))

-- by level, then name, then key
abbrev pub compile_cmp : (KeyWork → ℕ) → KeyWork → KeyWork → Ordering
compile_cmp level a b = ordering_then (nat_cmp (level a) (level b)) (ordering_then (slice_cmp nat_cmp a.name b.name) (key_cmp a.key b.key))

-- each work stands after those that it needs: none needs itself or a later one
abbrev pub AfterDependencies : List KeyWork → Type 0
AfterDependencies works = (i j : ℕ) (d : KeyWork) → i ≤ j → j < length works → ¬ Needs (slice_index_or works i d) (slice_index_or works j d)

-- the works stand by level, then name, then key, and each after those that it needs
pub record IsInCompileOrder (works : List KeyWork) : Type 0 where
  pub level : KeyWork → ℕ
  pub is_level : IsLevel works level
  pub ordered : IsSorted (compile_cmp level) works
  pub after_dependencies : AfterDependencies works
