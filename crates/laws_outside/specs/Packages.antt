-- How it is found out whether a package needs itself: those that need none of what is left are taken away, as often as
-- there are packages, and nothing is left.
use Rattle.std.specs.Prelude.{ℕ, zero, suc, Bool, true, false, List, [], ◌∷◌, filter, length}
use Rattle.std.specs.List.{list_any}
use Rattle.std.specs.Str.{bytes_eq}
use Rattle.bosh_base.specs.declared.release.PackageSpec.{PackageSpec}
use Rattle.bosh_release.specs.Sound.{names_of}

-- a text is one of these
abbrev pub is_one_of : List (List ℕ) → List ℕ → Bool
is_one_of texts text = list_any (λ it. bytes_eq it text) texts

-- a package lists one of these
abbrev pub lists_one : List PackageSpec → PackageSpec → Bool
lists_one packages pack = list_any (is_one_of (names_of packages)) pack.deps

-- the packages that need another one of them, or themselves
abbrev pub waiting : List PackageSpec → List PackageSpec
waiting packages = filter (lists_one packages) packages

-- the packages that are left after so many rounds
abbrev pub left_after : ℕ → List PackageSpec → List PackageSpec
left_after zero packages = packages
left_after (suc rounds) packages = left_after rounds (waiting packages)

-- there are no packages
abbrev pub are_none : List PackageSpec → Bool
are_none [] = true
are_none (pack ∷ packages) = false

-- no package needs itself, at once or by others
abbrev pub has_no_cycle : List PackageSpec → Bool
has_no_cycle packages = are_none (left_after (length packages) packages)
