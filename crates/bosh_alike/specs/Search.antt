-- How it is found out whether a further release goes with those that are there: each of its packages agrees with the first
-- package of its fingerprint, and needs the same packages by their names.
use Rattle.std.specs.Prelude.{ℕ, Bool, true, false, ◌&&◌, List, [], ◌∷◌, ◌++◌, Option, Some, None, find, option_map}
use Rattle.std.specs.List.{list_all, list_any}
use Rattle.std.specs.Str.{bytes_eq}
use Rattle.bosh_base.specs.declared.digest.Digest.{Digest}
use Rattle.bosh_base.specs.declared.release.PackageSpec.{PackageSpec}
use Rattle.bosh_base.specs.declared.release.Release.{Release}
use Rattle.bosh_alike.specs.Alike.{print_in}

abbrev pub is_print : Digest → Digest → Bool
is_print one other = bytes_eq one.0 other.0

-- a package, and the release that it is of
abbrev pub Found : Type 0
Found = Release × PackageSpec

abbrev pub find_in : Release → Digest → Option Found
find_in release print = option_map (λ pack. (release, pack)) (find (λ pack. is_print pack.fingerprint print) release.packages)

abbrev pub first_found : Option Found → Option Found → Option Found
first_found (Some found) other = Some found
first_found None other = other

-- the first package of a fingerprint
abbrev pub first_of : List Release → Digest → Option Found
first_of [] print = None
first_of (release ∷ releases) print = first_found (find_in release print) (first_of releases print)

abbrev pub has_print : Digest → Option Digest → Bool
has_print print None = false
has_print print (Some other) = is_print other print

-- whether a package needs one of this name and this fingerprint
abbrev pub needs : Release → PackageSpec → List ℕ → Digest → Bool
needs release pack name print = list_any (λ dep. bytes_eq dep name) pack.deps && has_print print (print_in release name)

abbrev pub needs_also : Release → PackageSpec → List ℕ → Option Digest → Bool
needs_also release pack name None = true
needs_also release pack name (Some print) = needs release pack name print

-- whether what a package needs, another one needs as well
abbrev pub covers : Release → PackageSpec → Release → PackageSpec → Bool
covers release pack other_release other =
    list_all (λ name. needs_also other_release other name (print_in release name)) pack.deps

abbrev pub agree : Release → PackageSpec → Release → PackageSpec → Bool
agree release pack other_release other =
    bytes_eq pack.name other.name
    && (covers release pack other_release other && covers other_release other release pack)

abbrev pub agrees_with : Release → PackageSpec → Option Found → Bool
agrees_with release pack None = true
agrees_with release pack (Some found) = agree release pack found.0 found.1

abbrev pub goes_with : List Release → Release → Bool
goes_with releases release =
    list_all (λ pack. agrees_with release pack (first_of (releases ++ release ∷ []) pack.fingerprint)) release.packages
