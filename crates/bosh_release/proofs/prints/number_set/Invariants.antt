use Rattle.std.proofs.Common.{◌≡◌, take}
use Rattle.bosh_release.specs.Collected.{numbers_in_order}
use Rattle.bosh_release.proofs.prints.number_set.Given as goal

abbrev pub invariant-loop-number : goal.invariant-loop-number
invariant-loop-number l = l.set.keys ≡ numbers_in_order (take l.number-index l.numbers)
