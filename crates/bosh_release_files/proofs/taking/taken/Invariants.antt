use Rattle.std.proofs.Common.{◌≡◌, map, take}
use Rattle.bosh_release_listing.specs.Parts.{stamp_view}
use Rattle.bosh_release_files.specs.Pattern.{taken_files}
use Rattle.bosh_release_files.proofs.taking.taken.Given as goal

abbrev pub invariant-loop-place : goal.invariant-loop-place
invariant-loop-place l = map stamp_view l.chosen.items ≡ taken_files (map stamp_view (take l.place l.files)) l.patterns
