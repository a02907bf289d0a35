use Rattle.std.proofs.Common.{◌≡◌, ℕ, drop}
use Rattle.std.specs.BTreeMap.{get}
use Rattle.std.specs.Option.{option_or}
use Rattle.std.specs.Ordering.{nat_cmp}
use Rattle.bosh_shown.specs.Cloud.{holder_in}
use Rattle.bosh_shown.proofs.disks.hold_disks.Given as goal

-- what is held by those so far, and by the others
abbrev pub invariant-loop-disk : goal.invariant-loop-disk
invariant-loop-disk l = (d : ℕ) →
    option_or (get nat_cmp l.holders d) (holder_in l.vm (drop l.disk-index l.disks) d)
    ≡ option_or (get nat_cmp l.fn.holders d) (holder_in l.vm l.disks d)
