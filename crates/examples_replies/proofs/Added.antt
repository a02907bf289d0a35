-- A release that is there is not added, and one that is not there is not told to be.
use Rattle.std.proofs.Common.{◌≡◌, Some, None, arith}
use Rattle.bosh_base.specs.declared.release.Release.{Release}
use Rattle.bosh_due.specs.Before.{Before}
use Rattle.bosh_due.specs.Uploads.{RecordsRelease, recorded_release}
use Rattle.bosh_due.specs.Uploads.RecordsRelease.{halted, new, other, same, unfit}
use Rattle.examples_replies.specs.Releases.{is_new, there}

pub not_added : (b : Before) (r was : Release) → recorded_release b.moment.known.releases r ≡ Some was → RecordsRelease b r (is_new r) → ⊥
not_added b r was is (halted at told) = grind (arith, told)
not_added b r was is (same it running known alike told) = grind (arith, told)
not_added b r was is (other it running known differs told) = grind (arith, told)
not_added b r was is (new running none version fits told) = grind (arith, is, none)
not_added b r was is (unfit running none fits told) = grind (arith, told)

pub not_there : (b : Before) (r : Release) → recorded_release b.moment.known.releases r ≡ None → RecordsRelease b r (there r) → ⊥
not_there b r none (halted at told) = grind (arith, told)
not_there b r none (same it running is alike told) = grind (arith, is, none)
not_there b r none (other it running is differs told) = grind (arith, told)
not_there b r none (new running is version fits told) = grind (arith, told)
not_there b r none (unfit running is fits told) = grind (arith, told)
