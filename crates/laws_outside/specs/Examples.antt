-- Small releases, which go with others or do not.
use Rattle.std.specs.Prelude.{ℕ, List, [], ◌∷◌, codes}
use Rattle.bosh_base.specs.declared.release.PackageSpec.{PackageSpec}
use Rattle.bosh_base.specs.declared.release.Release.{Release}

-- a package with a fingerprint of one number
abbrev pub package_of : List ℕ → ℕ → List (List ℕ) → PackageSpec
package_of name print deps = record { name = name; fingerprint = record { 0 = print ∷ [] }; deps = deps }

-- a release without jobs
abbrev pub release_of : List PackageSpec → Release
release_of packages = record { name = codes "r"; version = codes "1"; jobs = []; packages = packages }

-- names of one letter each
abbrev pub letter_a : List ℕ
letter_a = codes "a"

abbrev pub letter_b : List ℕ
letter_b = codes "b"

abbrev pub letter_c : List ℕ
letter_c = codes "c"

-- b needs a, and c needs both
abbrev pub in_a_row : Release
in_a_row = release_of (package_of letter_a 1 [] ∷ package_of letter_b 2 (letter_a ∷ []) ∷ package_of letter_c 3 (letter_a ∷ letter_b ∷ []) ∷ [])

-- a needs b, b needs c, and c needs a
abbrev pub in_a_circle : Release
in_a_circle = release_of (package_of letter_a 1 (letter_b ∷ []) ∷ package_of letter_b 2 (letter_c ∷ []) ∷ package_of letter_c 3 (letter_a ∷ []) ∷ [])

-- a needs itself
abbrev pub of_itself : Release
of_itself = release_of (package_of letter_a 1 (letter_a ∷ []) ∷ [])

-- a needs what is not there
abbrev pub lacking : Release
lacking = release_of (package_of letter_a 1 (letter_b ∷ []) ∷ [])

-- b stands before a
abbrev pub out_of_order : Release
out_of_order = release_of (package_of letter_b 2 [] ∷ package_of letter_a 1 [] ∷ [])

-- a package of a's fingerprint that is another one
abbrev pub another : Release
another = release_of (package_of letter_b 1 [] ∷ [])

-- the very package a
abbrev pub same_package : Release
same_package = release_of (package_of letter_a 1 [] ∷ [])

-- two packages of one fingerprint
abbrev pub two_of_one_print : Release
two_of_one_print = release_of (package_of letter_a 1 [] ∷ package_of letter_b 1 [] ∷ [])
