-- The release that the files of a folder spell, or their first fault (bosh.io, "Creating a release", in this project's
-- profile).
use Rattle.std.specs.Prelude.{◌≡◌, ℕ, ◌⊎◌, ◌<◌, nat_lt, Bool, true, List, [], ◌∷◌, Option, Some, None, Result, Ok, Err, codes, fold, length, map, slice_index_or, if◌then◌else◌}
use Rattle.std.specs.BTreeSet.{insert_key}
use Rattle.std.specs.Ordering.{nat_cmp}
use Rattle.bosh_base.specs.declared.digest.Digest.{Digest}
use Rattle.bosh_base.specs.declared.release.PackageSpec.{PackageSpec}
use Rattle.bosh_base.specs.declared.release.Release.{Release}
use Rattle.bosh_release_listing.specs.Listing.{PackageListing, Stamped, digest_of, package_text}
use Rattle.bosh_release.specs.Draft.{draft_of}
use Rattle.bosh_release.specs.declared.draft.Draft.{Draft}
use Rattle.bosh_release.specs.declared.drafted_package.PackageDraft.{PackageDraft}
use Rattle.bosh_release_files.specs.Files.{files_below}
use Rattle.bosh_release_files.specs.Pattern.{taken_files}
use Rattle.bosh_release_files.specs.declared.fault.ReleaseFault.{ReleaseFault}
use Rattle.bosh_release_files.specs.declared.fault.ReleaseFault.TheVariants as faults
use Rattle.bosh_release_files.specs.declared.folder.File.{File}
use Rattle.bosh_release_order.specs.Graph.{HasNoCycle, IsFirstOnCycle, needs_of}

-- ---- fingerprints

-- numbers in order, each once
abbrev pub numbers_in_order : List ℕ → List ℕ
numbers_in_order numbers = fold (insert_key nat_cmp) [] numbers

abbrev pub no_digest : Digest
no_digest = record { 0 = [] }

abbrev pub print_at : List Digest → ℕ → Digest
print_at prints place = slice_index_or prints place no_digest

abbrev pub name_at : List PackageDraft → ℕ → List ℕ
name_at packages place = slice_index_or (map (λ pack. pack.name) packages) place []

abbrev pub stamp_at : List PackageDraft → List Digest → ℕ → Stamped
stamp_at packages prints place = record { name = name_at packages place; digest = print_at prints place }

-- the packages that a package needs stand by their places, which is by name, each once
abbrev pub listing_of : List Stamped → List PackageDraft → List Digest → PackageDraft → List ℕ → PackageListing
listing_of sources packages prints pack needs = record {
  name = pack.name;
  script = pack.script;
  files = taken_files sources pack.patterns;
  deps = map (stamp_at packages prints) (numbers_in_order needs);
}

abbrev pub print_of : List Stamped → List PackageDraft → List Digest → PackageDraft → List ℕ → Digest
print_of sources packages prints pack needs = digest_of (package_text (listing_of sources packages prints pack needs))

-- the fingerprints of the packages, each that of its listing
pub record ArePrints (sources : List Stamped) (packages : List PackageDraft) (graph : List (List ℕ)) (prints : List Digest)
    : Type 0 where
  pub same_length : length prints ≡ length packages
  pub each :
      (place : ℕ) (d : PackageDraft) → place < length packages
      → print_at prints place
      ≡ print_of sources packages prints (slice_index_or packages place d) (needs_of graph place)

-- ---- the release

abbrev pub package_spec : PackageDraft → Digest → PackageSpec
package_spec pack print = record { name = pack.name; fingerprint = print; deps = pack.dependencies }

abbrev pub package_specs : List PackageDraft → List Digest → List PackageSpec
package_specs [] prints = []
package_specs (pack ∷ packages) [] = []
package_specs (pack ∷ packages) (print ∷ prints) = package_spec pack print ∷ package_specs packages prints

abbrev pub release_of : List ℕ → Draft → List Digest → Release
release_of version draft prints = record {
  name = draft.name;
  version = version;
  jobs = draft.jobs;
  packages = package_specs draft.packages prints;
}

-- ---- limits

-- which limit is exceeded first: 256 jobs, 256 packages, 4,096 files
abbrev pub exceeded : List File → Draft → Option (List ℕ)
exceeded files draft =
    if nat_lt 256 (length draft.jobs) then Some (codes "jobs")
    else if nat_lt 256 (length draft.packages) then Some (codes "packages")
    else if nat_lt 4096 (length files) then Some (codes "files")
    else None

abbrev pub within_limits : Option (List ℕ) → Result Bool ReleaseFault
within_limits None = Ok true
within_limits (Some key) = Err (faults.Limit key)

-- ---- all

-- no package needs itself, no limit is exceeded, and this is the release with the fingerprints of its packages
pub record IsCollected (files : List File) (version : List ℕ) (draft : Draft) (release : Release) : Type 0 where
  pub no_cycle : HasNoCycle draft.needs
  pub within : exceeded files draft ≡ None
  pub prints : List Digest
  pub are_prints : ArePrints (files_below (codes "src/") files) draft.packages draft.needs prints
  pub is : release ≡ release_of version draft prints

-- the package that needs itself and has the least name, since packages stand by name
pub record IsLeastOnCycle (draft : Draft) (name : List ℕ) : Type 0 where
  pub place : ℕ
  pub first : IsFirstOnCycle draft.needs place
  pub is : name ≡ name_at draft.packages place

-- a fault that comes with a draft: a cycle, and then a limit
abbrev pub IsDraftFault : List File → Draft → ReleaseFault → Type 0
IsDraftFault files draft (faults.Cycle name) = IsLeastOnCycle draft name
IsDraftFault files draft (faults.Limit key) = HasNoCycle draft.needs × (exceeded files draft ≡ Some key)
IsDraftFault files draft faults.Memory = Unit {0}
IsDraftFault files draft fault = ⊥

-- the answer for a draft
abbrev pub AnswersDraft : List File → List ℕ → Draft → Result Release ReleaseFault → Type 0
AnswersDraft files version draft (Ok release) = IsCollected files version draft release
AnswersDraft files version draft (Err fault) = IsDraftFault files draft fault

-- the answer for files: that for their draft, or the fault that they have before; or want of memory
abbrev pub Answers : List File → List ℕ → Result Draft ReleaseFault → Result Release ReleaseFault → Type 0
Answers files version (Ok draft) answer = AnswersDraft files version draft answer
Answers files version (Err fault) (Ok release) = ⊥
Answers files version (Err fault) (Err other) = (other ≡ faults.Memory) ⊎ (other ≡ fault)

abbrev pub Collects : List File → List ℕ → Result Release ReleaseFault → Type 0
Collects files version answer = Answers files version (draft_of files) answer
