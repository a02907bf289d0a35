-- What a compilation gives (this project's profile).
use Rattle.std.specs.Prelude.{List}
use Rattle.sha2.specs.Sha256.{sha256}
use Rattle.bosh_base.specs.declared.digest.Digest.{Digest}
use Rattle.bosh_base.specs.declared.key.KeyWork.{KeyWork}
use Rattle.bosh_compile.specs.Listing.{listing}

-- the digest of a work's listing, with the digests of what its dependencies gave
abbrev pub compiled_digest : KeyWork → List Digest → Digest
compiled_digest work deps = record { 0 = sha256 (listing work deps) }
