-- A listing's text tells the listing.
use Rattle.std.specs.Prelude.{◌≡◌, All, length}
use Rattle.hex.specs.Hex.{IsBytes}
use Rattle.bosh_base.specs.declared.digest.Digest.{Digest}
use Rattle.bosh_release_listing.specs.Lines.{IsOneLine}
use Rattle.bosh_release_listing.specs.Listing.{JobListing, PackageListing, Stamped, job_text, package_text}

-- 32 bytes
abbrev pub IsDigest : Digest → Type 0
IsDigest digest = (length digest.0 ≡ 32) × IsBytes digest.0

abbrev pub IsStamped : Stamped → Type 0
IsStamped it = IsOneLine it.name × IsDigest it.digest

-- its names and paths have no LF
pub record IsPackageListing (it : PackageListing) : Type 0 where
  pub name : IsOneLine it.name
  pub script : IsDigest it.script
  pub files : All IsStamped it.files
  pub deps : All IsStamped it.deps

pub record IsJobListing (it : JobListing) : Type 0 where
  pub name : IsOneLine it.name
  pub spec : IsDigest it.spec
  pub monit : IsDigest it.monit
  pub templates : All IsStamped it.templates

-- two packages with one text are one
abbrev pub PackageTextTells : Type 0
PackageTextTells =
    (a b : PackageListing) → IsPackageListing a → IsPackageListing b → package_text a ≡ package_text b → a ≡ b

abbrev pub JobTextTells : Type 0
JobTextTells = (a b : JobListing) → IsJobListing a → IsJobListing b → job_text a ≡ job_text b → a ≡ b
