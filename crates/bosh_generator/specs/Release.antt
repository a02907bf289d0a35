-- The files of a generated release (this project's profile).
use Rattle.std.specs.Prelude.{ℕ, zero, suc, List, [], ◌∷◌, ◌++◌, codes, decimal}
use Rattle.bosh_release_files.specs.declared.folder.File.{File}

abbrev pub file : List ℕ → List ℕ → File
file path bytes = record { path = path; bytes = bytes }

unfoldable pub named_file : File
named_file = file (codes "config/final.yml") (codes "name: gen\n")

unfoldable pub monit_file : File
monit_file = file (codes "jobs/w/monit") []

unfoldable pub job_file : File
job_file = file (codes "jobs/w/spec") (codes "name: w\ntemplates: {w.erb: w.conf}\npackages: [p7]\n")

unfoldable pub template_file : File
template_file = file (codes "jobs/w/templates/w.erb") (codes "index=<%= spec.index %>\n")

-- the name of the release and its one job, which has the last package
abbrev pub job_files : List File
job_files = named_file ∷ monit_file ∷ job_file ∷ template_file ∷ []

-- a package needs the one before
abbrev pub needs : ℕ → List ℕ
needs zero = []
needs (suc before) = codes "dependencies: [p" ++ decimal before ++ codes "]\n"

abbrev pub package_spec : ℕ → List ℕ
package_spec pack = (codes "name: p" ++ decimal pack ++ codes "\n") ++ needs pack

-- its script is empty
unfoldable pub script_file : ℕ → File
script_file pack = file (codes "packages/p" ++ decimal pack ++ codes "/packaging") []

unfoldable pub spec_file : ℕ → File
spec_file pack = file (codes "packages/p" ++ decimal pack ++ codes "/spec") (package_spec pack)

abbrev pub package_files : ℕ → List File
package_files pack = script_file pack ∷ spec_file pack ∷ []

-- of the first so many packages
abbrev pub packages_files : ℕ → List File
packages_files zero = []
packages_files (suc pack) = packages_files pack ++ package_files pack

-- all files: the job, and eight packages
abbrev pub release_files : List File
release_files = job_files ++ packages_files 8
