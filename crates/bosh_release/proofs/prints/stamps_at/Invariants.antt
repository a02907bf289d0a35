use Rattle.std.proofs.Common.{◌≡◌, map, take}
use Rattle.bosh_release_listing.specs.Parts.{stamp_view}
use Rattle.bosh_release.specs.Collected.{stamp_at}
use Rattle.bosh_release.proofs.prints.stamps_at.Given as goal

abbrev pub invariant-loop-place : goal.invariant-loop-place
invariant-loop-place l = map stamp_view l.stamps.items ≡ map (stamp_at l.packages l.prints) (take l.place-index l.places)
