use Rattle.std.proofs.Common.{rules}
use Rattle.bosh_lock.proofs.Leaving.{leaves_counted, counted_then, leaves_given}
use Rattle.bosh_lock.proofs.lock.SiteLock.leave.Goals as goal

pub store-requires : goal.store-requires
store-requires g c = (
  search rules,
  search rules,
  leaves_counted g.S.Chronicle.items _ _ c.turn.inside.seat.me _ _ _ c.turn.invariant.3 c.turn.invariant.4 c.exchange-before.ensures.3
      (search rules) c.length-reached.ensures,
)

pub swap-requires : goal.swap-requires
swap-requires g c = (
  search rules,
  search rules,
  leaves_given g.S.Chronicle.items _ _ c.turn.inside.seat.me _ _ c.turn.invariant.3
      (counted_then g.S.Chronicle.items c.turn.inside.seat.me _ _ _ c.turn.invariant.4 c.exchange-before.ensures.3 c.store.ensures.2),
)
