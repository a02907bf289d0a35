use Rattle.std.proofs.Common.{rules}
use Rattle.bosh_lock.proofs.Knowing.{cuts_in_two}
use Rattle.bosh_lock.proofs.lock.SiteLock.split.Goals as goal

pub split_seat-given-requires : goal.split_seat-given-requires
split_seat-given-requires g c = (search rules, search rules, cuts_in_two g.S.Chronicle.items _ _ c.pass.invariant.4)
