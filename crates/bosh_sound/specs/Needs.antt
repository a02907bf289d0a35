-- Parts of what a sound release is.
use Rattle.std.specs.Prelude.{ℕ, List, All, Contains}
use Rattle.bosh_base.specs.declared.release.JobSpec.{JobSpec}
use Rattle.bosh_base.specs.declared.release.PackageSpec.{PackageSpec}
use Rattle.bosh_base.specs.declared.release.Release.{Release}
use Rattle.bosh_release.specs.Sound.{Depends, names_of}
use Rattle.bosh_release_files.specs.Sources.{IsInOrder}

-- packages need only packages of these names
abbrev pub KnowAll : List (List ℕ) → List PackageSpec → Type 0
KnowAll names packages = All (λ pack. All (Contains names) pack.deps) packages

-- .. and so do jobs
abbrev pub JobsKnow : List (List ℕ) → List JobSpec → Type 0
JobsKnow names jobs = All (λ job. All (Contains names) job.packages) jobs

-- packages need only one another, and none needs itself
pub record AreNeedsSound (packages : List PackageSpec) : Type 0 where
  pub known : KnowAll (names_of packages) packages
  pub no_cycle : (name : List ℕ) → ¬ Depends packages name name

-- packages stand by name, jobs and packages need only these, and none of these needs itself
pub record ArePackagesSound (release : Release) : Type 0 where
  pub order : IsInOrder (names_of release.packages)
  pub jobs : JobsKnow (names_of release.packages) release.jobs
  pub needs : AreNeedsSound release.packages
