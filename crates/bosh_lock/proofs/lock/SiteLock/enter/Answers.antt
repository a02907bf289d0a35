use Rattle.std.proofs.Common.{rules}
use Rattle.bosh_lock.proofs.Leaving.{has_slot}
use Rattle.bosh_lock.proofs.lock.SiteLock.enter.Goals as goal

pub exchange-requires : goal.exchange-requires
exchange-requires g c = (search rules, has_slot g.S.Chronicle.items c.pass.inside.seat.me _ c.take.ensures.enters)
