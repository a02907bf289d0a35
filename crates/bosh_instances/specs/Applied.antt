-- What is applied to the machines of a group (bosh.io/docs/jobs, "packages").
use Rattle.std.specs.Prelude.{ℕ, Bool, ◌&&◌, List, [], ◌∷◌, ◌++◌, cond, filter_map, fold, map}
use Rattle.std.specs.List.{flat_map, list_any}
use Rattle.std.specs.Str.{bytes_eq}
use Rattle.bosh_base.specs.declared.release.PackageSpec.{PackageSpec}
use Rattle.bosh_base.specs.declared.spec.Mark.{Mark}
use Rattle.bosh_lookup.specs.Table.{first_named}
use Rattle.bosh_manifest_names.specs.Used.{UsedJob}

abbrev pub job_mark : UsedJob → Mark
job_mark used = record { name = used.job.name; fingerprint = used.spec.fingerprint }

abbrev pub job_marks : List UsedJob → List Mark
job_marks jobs = map job_mark jobs

-- ---- packages

abbrev pub package_name : PackageSpec → List ℕ
package_name pack = pack.name

-- those that the specification of a job lists
abbrev pub own_packages : UsedJob → List PackageSpec
own_packages used = filter_map (first_named package_name used.release.packages) used.spec.packages

abbrev pub all_packages : List UsedJob → List PackageSpec
all_packages jobs = flat_map own_packages jobs

abbrev pub same_package : PackageSpec → PackageSpec → Bool
same_package one other = bytes_eq one.name other.name && bytes_eq one.fingerprint.0 other.fingerprint.0

-- a package behind those before it, unless it is one of them
abbrev pub with_package : List PackageSpec → PackageSpec → List PackageSpec
with_package before pack =
    cond (list_any (λ one. same_package one pack) before) before (before ++ pack ∷ [])

-- each once, where it stands first
abbrev pub distinct : List PackageSpec → List PackageSpec
distinct packages = fold with_package [] packages

abbrev pub package_mark : PackageSpec → Mark
package_mark pack = record { name = pack.name; fingerprint = pack.fingerprint }

abbrev pub package_marks : List UsedJob → List Mark
package_marks jobs = map package_mark (distinct (all_packages jobs))
