use Rattle.std.proofs.Common.{◌≡◌, drop, nat_eq}
use Rattle.std.specs.Cmp.Lexicographic.{pointwise}
use Rattle.bosh_cck.specs.Held.{held_numbers}
use Rattle.bosh_cck.proofs.facts.are_held.Given as goal

abbrev pub invariant-loop-disk : goal.invariant-loop-disk
invariant-loop-disk l =
    pointwise nat_eq l.numbers (held_numbers l.hold l.disks) ≡ pointwise nat_eq l.rest (held_numbers l.hold (drop l.disk-index l.disks))
