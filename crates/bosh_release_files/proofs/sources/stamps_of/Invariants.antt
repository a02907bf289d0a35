use Rattle.std.proofs.Common.{◌≡◌, map}
use Rattle.bosh_release_listing.specs.Parts.{stamp_view}
use Rattle.bosh_release_files.specs.Files.{stamped_by}
use Rattle.bosh_release_files.specs.Sources.{digest_seen}
use Rattle.bosh_release_files.proofs.sources.stamps_of.Given as goal

abbrev pub invariant-loop-name : goal.invariant-loop-name
invariant-loop-name l = map stamp_view l.files.items ≡ map stamped_by (map digest_seen l.yielded)
