-- One more disk is changed.
use Rattle.std.proofs.Common.{◌≡◌, ◌∙◌, ◌<◌, length, slice_set, rules}
use Rattle.bosh_rows.proofs.DiskLemmas.{changed_more}
use Rattle.bosh_rows.specs.DiskChange.{disk_after}
use Rattle.bosh_rows.proofs.disk_change.DiskChange.make.Goals as goal

pub loop-place-preserved : goal.loop-place-preserved
loop-place-preserved c =
    let f = disk_after c.args.self in
    let taken = c.set-disk.result in
    let place = c.loop-place.place in
    let below : place < length c.args.disks.now = search rules in
    let made : c.set.new.self ≡ slice_set (slice_set c.loop-place.disks place c.blank.result) place (f taken) = cc in
    made
    ∙ changed_more f c.args.disks.now c.loop-place.disks place c.blank.result taken below c.loop-place.invariant
    c.set-disk.ensures.given_back
