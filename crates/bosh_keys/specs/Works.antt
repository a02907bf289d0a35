-- What the groups of a manifest need compiled (bosh.io, "Packages", "Deployment manifest"). A package is compiled for
-- each stemcell apart, which is this project's profile.
use Rattle.std.specs.Prelude.{ℕ, List, Option, map, option_map}
use Rattle.std.specs.List.{filter_map, flat_map}
use Rattle.bosh_base.specs.declared.key.Key.{Key}
use Rattle.bosh_base.specs.declared.key.KeyWork.{KeyWork}
use Rattle.bosh_base.specs.declared.release.PackageSpec.{PackageSpec}
use Rattle.bosh_base.specs.declared.release.Release.{Release}
use Rattle.bosh_base.specs.declared.stemcell.Stemcell.{Stemcell}
use Rattle.bosh_lookup.specs.Table.{first_named}
use Rattle.bosh_needed.specs.Needed.{AreNeeded}
use Rattle.bosh_release_files.specs.Files.{in_order}
use Rattle.bosh_manifest_names.specs.Used.{UsedGroup, UsedJob}

-- ---- keys

abbrev pub package_name : PackageSpec → List ℕ
package_name pack = pack.name

-- a package by its contents, for a stemcell
abbrev pub key_of : Stemcell → PackageSpec → Key
key_of stemcell pack = record { fingerprint = pack.fingerprint; os = stemcell.os; version = stemcell.version }

-- the key of the package of a name
abbrev pub key_named : Release → Stemcell → List ℕ → Option Key
key_named release stemcell name = option_map (key_of stemcell) (first_named package_name release.packages name)

-- the keys of the packages of several names, in the order of the names
abbrev pub keys_named : Release → Stemcell → List (List ℕ) → List Key
keys_named release stemcell names = filter_map (key_named release stemcell) names

-- ---- works

-- a package to be compiled for a stemcell; what it needs stands by name, each once
abbrev pub work_of : Release → Stemcell → PackageSpec → KeyWork
work_of release stemcell pack = record {
  name = pack.name;
  key = key_of stemcell pack;
  deps = keys_named release stemcell (in_order pack.deps);
}

-- all packages of the release that a job is of
abbrev pub job_works : Stemcell → UsedJob → List KeyWork
job_works stemcell used = map (work_of used.release stemcell) used.release.packages

abbrev pub group_works : UsedGroup → List KeyWork
group_works group = flat_map (job_works group.stemcell) group.jobs

abbrev pub all_works : List UsedGroup → List KeyWork
all_works groups = flat_map group_works groups

-- ---- what is asked for

-- the packages of a job
abbrev pub job_keys : Stemcell → UsedJob → List Key
job_keys stemcell used = keys_named used.release stemcell used.spec.packages

abbrev pub group_keys : UsedGroup → List Key
group_keys group = flat_map (job_keys group.stemcell) group.jobs

abbrev pub asked_keys : List UsedGroup → List Key
asked_keys groups = flat_map group_keys groups

-- ---- releases

abbrev pub group_releases : UsedGroup → List Release
group_releases group = map (λ used. used.release) group.jobs

-- the releases of all jobs
abbrev pub releases_of : List UsedGroup → List Release
releases_of groups = flat_map group_releases groups

-- ---- all

-- the packages that jobs list and all that these need, but for what is compiled, in the order of compilation; the jobs of
-- groups without instances count
abbrev pub AreKeys : List UsedGroup → List Key → List KeyWork → Type 0
AreKeys groups compiled keys = AreNeeded (all_works groups) (asked_keys groups) compiled keys
