use Rattle.std.proofs.Common.{◌≡◌}
use Rattle.bosh_release.proofs.prints.numbers_in_order.Given as goal

abbrev pub invariant-loop-number : goal.invariant-loop-number
invariant-loop-number l = l.all.items ≡ l.yielded
