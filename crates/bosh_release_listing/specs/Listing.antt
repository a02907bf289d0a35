-- What stands for a package and for a job of a release: a listing of what it is made of, each file by the SHA-256
-- (FIPS 180-4) of its contents (this project's profile; bosh.io, "Jobs", "Packages").
use Rattle.std.specs.Prelude.{ℕ, List, ◌∷◌, ◌++◌, codes, map}
use Rattle.sha2.specs.Sha256.{sha256}
use Rattle.bosh_base.specs.declared.digest.Digest.{Digest}
use Rattle.bosh_release_listing.specs.Lines.{hex_of, text_of}

-- a path with the digest of the file's contents, or the name of a package with its fingerprint
pub record Stamped : Type 0 where
  pub name : List ℕ
  pub digest : Digest

-- a package: its name, its script, its files by path below `src/`, and the packages that it needs by name
pub record PackageListing : Type 0 where
  pub name : List ℕ
  pub script : Digest
  pub files : List Stamped
  pub deps : List Stamped

-- a job: its name, its spec, what monitors it, and its templates by source
pub record JobListing : Type 0 where
  pub name : List ℕ
  pub spec : Digest
  pub monit : Digest
  pub templates : List Stamped

-- a digest behind a word
abbrev pub digest_line : List ℕ → Digest → List ℕ
digest_line word digest = word ++ hex_of digest

-- .. and before a path
abbrev pub file_line : List ℕ → Stamped → List ℕ
file_line word it = word ++ (hex_of it.digest ++ 32 ∷ it.name)

abbrev pub dep_line : Stamped → List ℕ
dep_line it = codes "dep " ++ (it.name ++ 32 ∷ hex_of it.digest)

abbrev pub name_line : List ℕ → List ℕ
name_line name = codes "name " ++ name

abbrev pub package_lines : PackageListing → List (List ℕ)
package_lines it =
    codes "bosh-package 1"
    ∷ name_line it.name
    ∷ digest_line (codes "script ") it.script
    ∷ map (file_line (codes "file ")) it.files
    ++ map dep_line it.deps

abbrev pub job_lines : JobListing → List (List ℕ)
job_lines it =
    codes "bosh-job 1"
    ∷ name_line it.name
    ∷ digest_line (codes "spec ") it.spec
    ∷ digest_line (codes "monit ") it.monit
    ∷ map (file_line (codes "template ")) it.templates

abbrev pub package_text : PackageListing → List ℕ
package_text it = text_of (package_lines it)

abbrev pub job_text : JobListing → List ℕ
job_text it = text_of (job_lines it)

abbrev pub digest_of : List ℕ → Digest
digest_of bytes = record { 0 = sha256 bytes }
