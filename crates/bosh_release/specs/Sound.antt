-- When a release is sound by itself (this project's profile): but for two packages whose fingerprints are the same,
-- which only other releases beside it can tell.
use Rattle.std.specs.Prelude.{◌≡◌, ℕ, List, Ok, All, Contains, map}
use Rattle.bosh_base.specs.declared.release.PackageSpec.{PackageSpec}
use Rattle.bosh_base.specs.declared.release.Release.{Release}
use Rattle.bosh_release.specs.Collected.{Collects}
use Rattle.bosh_release_files.specs.Sources.{IsInOrder}
use Rattle.bosh_release_files.specs.declared.folder.File.{File}

abbrev pub names_of : List PackageSpec → List (List ℕ)
names_of packages = map (λ pack. pack.name) packages

-- a package of the first name lists the second one
abbrev pub Lists : List PackageSpec → List ℕ → List ℕ → Type 0
Lists packages name other =
    (pack : PackageSpec) × Contains packages pack × (pack.name ≡ name) × Contains pack.deps other

-- .. or one that it lists needs it so
pub data Depends (packages : List PackageSpec) : List ℕ → List ℕ → Type 0 where
  at_once : (name other : List ℕ) → Lists packages name other → Depends packages name other
  by : (name next last : List ℕ) → Lists packages name next → Depends packages next last → Depends packages name last

-- jobs and packages stand by name, each name once; they name only packages of the release; none of these needs itself
pub record IsSound (release : Release) : Type 0 where
  pub jobs : IsInOrder (map (λ job. job.name) release.jobs)
  pub packages : IsInOrder (names_of release.packages)
  pub jobs_name : All (λ job. All (Contains (names_of release.packages)) job.packages) release.jobs
  pub packages_name : All (λ pack. All (Contains (names_of release.packages)) pack.deps) release.packages
  pub no_cycle : (name : List ℕ) → ¬ Depends release.packages name name

-- what files spell is sound
abbrev pub CollectedIsSound : Type 0
CollectedIsSound =
    (files : List File) (version : List ℕ) (release : Release) → Collects files version (Ok release) → IsSound release
