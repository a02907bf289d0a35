use Rattle.std.proofs.Common.{rules}
use Rattle.bosh_lock.proofs.Knowing.{makes_one, weighs_in}
use Rattle.bosh_lock.proofs.lock.SiteLock.join.Goals as goal

pub join_seat-requires : goal.join_seat-requires
join_seat-requires g c = (
  search rules,
  search rules,
  search rules,
  search rules,
  makes_one g.S.Chronicle.items _ _ _ _ c.one.invariant.4 c.other.invariant.4,
)

pub load-requires : goal.load-requires
load-requires g c = (search rules, search rules, weighs_in g.S.Chronicle.items _ _ _)
