use Rattle.std.proofs.Common.{◌≡◌, map, take}
use Rattle.bosh_release_listing.specs.Parts.{stamp_view as stamp_seen}
use Rattle.bosh_release.specs.Draft.{stamped}
use Rattle.bosh_release.proofs.job.stamps_of.Given as goal

abbrev pub invariant-loop-template : goal.invariant-loop-template
invariant-loop-template l = map stamp_seen l.stamps.items ≡ map stamped (take l.template-index l.templates)
