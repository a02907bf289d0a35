-- How it is found out whether a release is sound by itself, and whether releases go with one another.
use Rattle.std.specs.Prelude.{ℕ, Bool, true, ◌&&◌, List, [], ◌∷◌, ◌++◌, map}
use Rattle.std.specs.Cmp.Lexicographic.{slice_cmp}
use Rattle.std.specs.List.{list_all}
use Rattle.std.specs.Ordering.{is_lt, nat_cmp}
use Rattle.bosh_alike.specs.Search as search
use Rattle.bosh_base.specs.declared.release.JobSpec.{JobSpec}
use Rattle.bosh_base.specs.declared.release.PackageSpec.{PackageSpec}
use Rattle.bosh_base.specs.declared.release.Release.{Release}
use Rattle.bosh_release.specs.Sound.{names_of}
use Rattle.laws_outside.specs.Packages.{has_no_cycle, is_one_of}

-- ---- one release

-- a text stands before another one
abbrev pub is_before : List ℕ → List ℕ → Bool
is_before text later = is_lt (slice_cmp nat_cmp text later)

-- each text is less than those after it
abbrev pub are_in_order : List (List ℕ) → Bool
are_in_order [] = true
are_in_order (text ∷ texts) = list_all (is_before text) texts && are_in_order texts

-- a job names packages of these names alone
abbrev pub is_job_among : List (List ℕ) → JobSpec → Bool
is_job_among names job = list_all (is_one_of names) job.packages

-- a package lists packages of these names alone
abbrev pub is_package_among : List (List ℕ) → PackageSpec → Bool
is_package_among names pack = list_all (is_one_of names) pack.deps

-- jobs and packages stand by name, they name only packages of the release, and none of these needs itself
abbrev pub is_sound : Release → Bool
is_sound release =
    are_in_order (map (λ job. job.name) release.jobs)
    && (are_in_order (names_of release.packages)
    && (list_all (is_job_among (names_of release.packages)) release.jobs
    && (list_all (is_package_among (names_of release.packages)) release.packages && has_no_cycle release.packages)))

-- ---- several releases

-- each of these releases agrees with those before it
abbrev pub agree_after : List Release → List Release → Bool
agree_after before [] = true
agree_after before (release ∷ releases) =
    search.goes_with before release && agree_after (before ++ release ∷ []) releases

-- any two packages of one fingerprint are one package
abbrev pub are_alike : List Release → Bool
are_alike releases = agree_after [] releases

-- releases that a goal may be made from
abbrev pub are_sound : List Release → Bool
are_sound releases = list_all is_sound releases && are_alike releases

-- recorded releases and a further one are sound, and alike together
abbrev pub goes_with : List Release → Release → Bool
goes_with releases release = are_sound releases && (is_sound release && are_alike (releases ++ release ∷ []))
