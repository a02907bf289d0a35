-- That packages of one fingerprint are one package: a fingerprint stands for the name of a package and for what it needs
-- compiled (bosh.io, "Creating a release", in this project's profile).
use Rattle.std.specs.Prelude.{◌≡◌, ◌↔◌, ℕ, List, Option, Contains, filter_map, find, option_map}
use Rattle.std.specs.Str.{bytes_eq}
use Rattle.bosh_base.specs.declared.digest.Digest.{Digest}
use Rattle.bosh_base.specs.declared.release.PackageSpec.{PackageSpec}
use Rattle.bosh_base.specs.declared.release.Release.{Release}

-- the fingerprint of the package of a name
abbrev pub print_in : Release → List ℕ → Option Digest
print_in release name = option_map (λ pack. pack.fingerprint) (find (λ pack. bytes_eq pack.name name) release.packages)

-- the fingerprints of the packages that a package needs
abbrev pub dep_prints : Release → PackageSpec → List Digest
dep_prints release pack = filter_map (print_in release) pack.deps

-- two packages, each of its release, have one name and need packages of the same fingerprints
pub record AreOne (release : Release) (pack : PackageSpec) (other_release : Release) (other : PackageSpec) : Type 0 where
  pub name : pack.name ≡ other.name
  pub deps : (print : Digest) → Contains (dep_prints release pack) print ↔ Contains (dep_prints other_release other) print

-- a package of one of the releases
pub record IsOf (releases : List Release) (release : Release) (pack : PackageSpec) : Type 0 where
  pub release_there : Contains releases release
  pub package_there : Contains release.packages pack

-- any two packages of one fingerprint, in one release or in two
abbrev pub AreAlike : List Release → Type 0
AreAlike releases =
    (release other_release : Release) (pack other : PackageSpec)
    → IsOf releases release pack → IsOf releases other_release other → pack.fingerprint ≡ other.fingerprint
    → AreOne release pack other_release other
