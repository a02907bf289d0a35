-- What the files of a folder say of a release, before its packages have fingerprints: the jobs and packages by name,
-- each whole or with its first fault (bosh.io, "Jobs", "Packages").
use Rattle.std.specs.Prelude.{ℕ, suc, Bool, true, List, [], ◌∷◌, ◌++◌, Option, Some, None, Result, Ok, codes, map, if◌then◌else◌}
use Rattle.std.specs.Option.{option_map}
use Rattle.std.specs.Str.{bytes_eq}
use Rattle.bosh_base.specs.declared.release.JobSpec.{JobSpec}
use Rattle.bosh_base.specs.declared.release.TemplateSpec.{TemplateSpec}
use Rattle.bosh_release_listing.specs.Listing.{JobListing, Stamped, digest_of, job_text}
use Rattle.bosh_release.specs.Spec.{check_name, spec_at}
use Rattle.bosh_release.specs.declared.draft.Draft.{Draft}
use Rattle.bosh_release.specs.declared.drafted_package.PackageDraft.{PackageDraft}
use Rattle.bosh_release_files.specs.Answer.{◌>>=◌, check_each, each, or_fault}
use Rattle.bosh_release_files.specs.Files.{Entry, bytes_at, files_below, folder_of_files, folders_below}
use Rattle.bosh_release_files.specs.Pattern.{patterns}
use Rattle.bosh_release_files.specs.declared.fault.ReleaseFault.{ReleaseFault}
use Rattle.bosh_release_files.specs.declared.fault.ReleaseFault.TheVariants.{Missing, UnknownPackage}
use Rattle.bosh_release_files.specs.declared.folder.File.{File}
use Rattle.bosh_release_files.specs.declared.pattern.Pattern.{Pattern}
use Rattle.bosh_release_specs.specs.JobSpec.{a_job_spec}
use Rattle.bosh_release_specs.specs.PackageSpec.{a_package_spec, a_release}
use Rattle.bosh_release_specs.specs.declared.job.JobDescription.{JobDescription}
use Rattle.bosh_release_specs.specs.declared.job.TemplatePlace.{TemplatePlace}
use Rattle.bosh_release_specs.specs.declared.package_file.PackageDescription.{PackageDescription}

-- the bytes of a file that has to be there
abbrev pub required_at : List Entry → List ℕ → Result (List ℕ) ReleaseFault
required_at folder path = or_fault (Missing path) (bytes_at folder path)

-- a file of a thing of a kind, as `jobs/web/spec`
abbrev pub path_in : List ℕ → List ℕ → List ℕ → List ℕ
path_in kind name file = kind ++ (name ++ file)

-- ---- jobs

abbrev pub job_path : List ℕ → List ℕ → List ℕ
job_path = path_in (codes "jobs/")

abbrev pub with_text : TemplatePlace → List ℕ → TemplateSpec
with_text place text = record { source = place.source; destination = place.destination; text = text }

-- a template, whose file lies in the job's folder of templates
unfoldable pub template_in : List Entry → List ℕ → TemplatePlace → Result TemplateSpec ReleaseFault
template_in folder name place = do
  text ← required_at folder (job_path name (codes "/templates/" ++ place.source))
  Ok (with_text place text)

abbrev pub stamped : TemplateSpec → Stamped
stamped template = record { name = template.source; digest = digest_of template.text }

abbrev pub job_listing : List ℕ → List ℕ → List ℕ → List TemplateSpec → JobListing
job_listing name spec monit templates = record {
  name = name;
  spec = digest_of spec;
  monit = digest_of monit;
  templates = map stamped templates;
}

abbrev pub job_with : JobDescription → List TemplateSpec → List ℕ → List ℕ → JobSpec
job_with it templates spec monit = record {
  name = it.name;
  fingerprint = digest_of (job_text (job_listing it.name spec monit templates));
  templates = templates;
  packages = it.packages;
  properties = it.properties;
  provides = it.provides;
  consumes = it.consumes;
}

-- two files of a thing
abbrev pub both_files : List Entry → List ℕ → List ℕ → Result (List ℕ × List ℕ) ReleaseFault
both_files folder first_path second_path = do
  first ← required_at folder first_path
  second ← required_at folder second_path
  Ok (first, second)

-- a job of its folder: its files are there, its spec reads, the files of its templates are there, and it has the
-- folder's name
unfoldable pub job_of : List Entry → List ℕ → Result JobSpec ReleaseFault
job_of folder name = do
  texts ← both_files folder (job_path name (codes "/spec")) (job_path name (codes "/monit"))
  it ← spec_at a_job_spec (job_path name (codes "/spec")) texts.0
  templates ← each (template_in folder name) it.templates
  same ← check_name (job_path name (codes "/spec")) name it.name
  Ok (job_with it templates texts.0 texts.1)

-- ---- packages

abbrev pub package_path : List ℕ → List ℕ → List ℕ
package_path = path_in (codes "packages/")

abbrev pub package_with : PackageDescription → List ℕ → List Pattern → PackageDraft
package_with it script taken =
    record { name = it.name; script = digest_of script; patterns = taken; dependencies = it.dependencies }

-- a package of its folder: its files are there, its spec reads, it has the folder's name, and its patterns take files
unfoldable pub package_of : List Entry → List Stamped → List ℕ → Result PackageDraft ReleaseFault
package_of folder sources name = do
  texts ← both_files folder (package_path name (codes "/spec")) (package_path name (codes "/packaging"))
  it ← spec_at a_package_spec (package_path name (codes "/spec")) texts.0
  same ← check_name (package_path name (codes "/spec")) name it.name
  taken ← patterns sources it.files
  Ok (package_with it texts.1 taken)

-- ---- needs

-- the place of a name among names, counted from 0
abbrev pub place_among : List (List ℕ) → List ℕ → Option ℕ
place_among [] name = None
place_among (first ∷ names) name =
    if bytes_eq name first then Some 0 else option_map suc (place_among names name)

-- .. which has to be one of a package
abbrev pub place_of : List (List ℕ) → List ℕ → Result ℕ ReleaseFault
place_of names name = or_fault (UnknownPackage name) (place_among names name)

abbrev pub places_of : List (List ℕ) → List (List ℕ) → Result (List ℕ) ReleaseFault
places_of names needs = each (place_of names) needs

-- a job's packages are there
abbrev pub check_job : List (List ℕ) → JobSpec → Result Bool ReleaseFault
check_job names job = do
  places ← places_of names job.packages
  Ok true

-- the places of the packages that a package needs
abbrev pub needs_of : List (List ℕ) → PackageDraft → Result (List ℕ) ReleaseFault
needs_of names pack = places_of names pack.dependencies

abbrev pub package_names : List PackageDraft → List (List ℕ)
package_names packages = map (λ pack. pack.name) packages

-- the needs of the packages, where jobs and packages name only packages that are there
abbrev pub graph_of : List JobSpec → List PackageDraft → Result (List (List ℕ)) ReleaseFault
graph_of jobs packages = do
  known ← check_each (check_job (package_names packages)) jobs
  each (needs_of (package_names packages)) packages

-- ---- all

abbrev pub final_path : List ℕ
final_path = codes "config/final.yml"

abbrev pub named : List Entry → Result (List ℕ) ReleaseFault
named folder = do
  text ← required_at folder final_path
  spec_at a_release final_path text

abbrev pub jobs_of : List Entry → List File → Result (List JobSpec) ReleaseFault
jobs_of folder files = each (job_of folder) (folders_below (codes "jobs/") files)

abbrev pub packages_of : List Entry → List File → Result (List PackageDraft) ReleaseFault
packages_of folder files =
    each (package_of folder (files_below (codes "src/") files)) (folders_below (codes "packages/") files)

abbrev pub draft_with : List ℕ → List JobSpec → List PackageDraft → List (List ℕ) → Draft
draft_with name jobs packages needs = record { name = name; jobs = jobs; packages = packages; needs = needs }

abbrev pub jobs_and_packages : List Entry → List File → Result (List JobSpec × List PackageDraft) ReleaseFault
jobs_and_packages folder files = do
  jobs ← jobs_of folder files
  packages ← packages_of folder files
  Ok (jobs, packages)

abbrev pub with_needs : List ℕ → List JobSpec → List PackageDraft → Result Draft ReleaseFault
with_needs name jobs packages = do
  needs ← graph_of jobs packages
  Ok (draft_with name jobs packages needs)

-- a release is named, each of its jobs and packages is whole, and then none needs a package that is not there
abbrev pub draft_in : List Entry → List File → Result Draft ReleaseFault
draft_in folder files = do
  name ← named folder
  both ← jobs_and_packages folder files
  with_needs name both.0 both.1

abbrev pub draft_of : List File → Result Draft ReleaseFault
draft_of files = draft_in (folder_of_files files) files
