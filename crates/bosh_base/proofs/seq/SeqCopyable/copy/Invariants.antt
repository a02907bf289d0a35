use Rattle.std.proofs.Common.{◌≡◌, take}
use Rattle.bosh_base.proofs.seq.SeqCopyable.copy.Given as goal

-- the items so far are copied
abbrev pub invariant-loop-item : goal.invariant-loop-item
invariant-loop-item g l = l.items.items ≡ take l.item-index l.item-items
