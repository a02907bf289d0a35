-- Fingerprints that are found one after another.
use Rattle.std.specs.Prelude.{◌≡◌, ℕ, List, All, Contains, length, slice_index_or}
use Rattle.bosh_base.specs.declared.digest.Digest.{Digest}
use Rattle.bosh_release_listing.specs.Listing.{Stamped}
use Rattle.bosh_release.specs.Collected.{print_at, print_of}
use Rattle.bosh_release.specs.declared.draft.Draft.{Draft}
use Rattle.bosh_release.specs.declared.drafted_package.PackageDraft.{PackageDraft}
use Rattle.bosh_release_order.specs.Graph.{IsGraph, needs_of}

-- each package has its needs, which are packages
pub record IsFit (draft : Draft) : Type 0 where
  pub same_length : length draft.needs ≡ length draft.packages
  pub graph : IsGraph draft.needs

-- the fingerprints of some packages, which need no others
pub record ArePrintsOf (sources : List Stamped) (packages : List PackageDraft) (graph : List (List ℕ)) (done : List ℕ)
    (prints : List Digest) : Type 0 where
  pub same_length : length prints ≡ length packages
  pub closed : (place : ℕ) → Contains done place → All (Contains done) (needs_of graph place)
  pub each :
      (place : ℕ) (d : PackageDraft) → Contains done place
      → print_at prints place ≡ print_of sources packages prints (slice_index_or packages place d) (needs_of graph place)
