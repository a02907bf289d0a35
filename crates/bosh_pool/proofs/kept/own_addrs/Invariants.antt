use Rattle.std.proofs.Common.{◌≡◌, List, map, take}
use Rattle.bosh_base.specs.declared.view.Held.{Held}
use Rattle.bosh_pool.specs.Kept.{own}
use Rattle.bosh_pool.specs.Table.{AreEntries}
use Rattle.bosh_pool.proofs.kept.own_addrs.Given as goal

abbrev pub invariant-loop-want : goal.invariant-loop-want
invariant-loop-want l = (taken kept : List Held) → AreEntries taken kept l.entries → l.addrs.items ≡ map (own l.plan taken kept) (take l.want-index l.wants)
