use Rattle.std.proofs.Common.{◌≡◌, ℕ, drop}
use Rattle.std.specs.BTreeMap.{get}
use Rattle.std.specs.Option.{option_or}
use Rattle.std.specs.Ordering.{nat_cmp}
use Rattle.bosh_shown.specs.Cloud.{holder}
use Rattle.bosh_shown.proofs.disks.holders_of.Given as goal

-- what is held by those so far, and by the others
abbrev pub invariant-loop-slot : goal.invariant-loop-slot
invariant-loop-slot l = (d : ℕ) →
    option_or (get nat_cmp l.holders d) (holder (drop l.slot-index l.slots) d) ≡ holder l.slots d
