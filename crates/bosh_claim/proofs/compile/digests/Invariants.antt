use Rattle.std.proofs.Common.{◌≡◌, ◌++◌}
use Rattle.std.specs.Slice.Iter.{iter_rest}
use Rattle.bosh_claim.specs.Slot.{digests_of}
use Rattle.bosh_claim.proofs.compile.digests.Given as goal

abbrev pub invariant-loop-dep : goal.invariant-loop-dep
invariant-loop-dep l =
    l.found.items ++ digests_of l.records (iter_rest l.dep-iterator) ≡ digests_of l.records l.key.deps
