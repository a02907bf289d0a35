use Rattle.std.proofs.Common.{◌≡◌, ◌||◌, take}
use Rattle.bosh_base.specs.declared.key.Key.{Key}
use Rattle.bosh_compile.specs.KeySet.{has_key}
use Rattle.bosh_compile.specs.Readiness.{is_among}
use Rattle.bosh_needed.proofs.marks.mark_all.Given as goal

abbrev pub invariant-loop-key : goal.invariant-loop-key
invariant-loop-key l = (other : Key) → has_key l.marks other ≡ (is_among other (take l.key-index l.keys) || has_key l.fn.marks other)
