use Rattle.std.proofs.Common.{rules}
use Rattle.bosh_lock.proofs.Ends.{begins}
use Rattle.bosh_lock.proofs.lock.SiteLock.new.Goals as goal

pub new-requires : goal.new-requires
new-requires g c = rw (c.of-about.ensures, c.in-Ok.ensures) (begins g.S.Chronicle.items c.args.value _ (search rules))
