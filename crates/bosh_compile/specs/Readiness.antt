-- When a package may be compiled (bosh.io, "Packages": a package's dependencies are compiled before it).
use Rattle.std.specs.Prelude.{◌&&◌, Bool, List, All, Contains, nat_eq}
use Rattle.std.specs.List.{list_any}
use Rattle.std.specs.Cmp.Lexicographic.{pointwise}
use Rattle.bosh_base.specs.declared.key.Key.{Key}
use Rattle.bosh_base.specs.declared.key.KeyWork.{KeyWork}

-- all that the work needs is compiled
abbrev pub IsReady : KeyWork → List Key → Type 0
IsReady work compiled = All (λ dep. Contains compiled dep) work.deps

-- the keys are of the same contents and the same stemcell
abbrev pub same_key : Key → Key → Bool
same_key a b = pointwise nat_eq a.fingerprint.0 b.fingerprint.0 && (pointwise nat_eq a.os b.os && pointwise nat_eq a.version b.version)

abbrev pub is_among : Key → List Key → Bool
is_among key keys = list_any (λ each. same_key each key) keys
