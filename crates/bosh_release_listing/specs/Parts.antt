-- The parts that a listing is made of, as they are handed over.
use Rattle.std.specs.Prelude.{ℕ, List, map}
use Rattle.bosh_base.specs.declared.digest.Digest.{Digest}
use Rattle.bosh_release_listing.specs.Listing.{JobListing, PackageListing, Stamped}
use Rattle.bosh_release_listing.specs.declared.listing.Stamp.{Stamp}

abbrev pub stamp_view : Stamp → Stamped
stamp_view stamp = record { name = stamp.name.now; digest = stamp.digest }

abbrev pub package_of : List ℕ → Digest → List Stamp → List Stamp → PackageListing
package_of name script files deps = record {
  name = name;
  script = script;
  files = map stamp_view files;
  deps = map stamp_view deps;
}

abbrev pub job_of : List ℕ → Digest → Digest → List Stamp → JobListing
job_of name spec monit templates = record {
  name = name;
  spec = spec;
  monit = monit;
  templates = map stamp_view templates;
}
