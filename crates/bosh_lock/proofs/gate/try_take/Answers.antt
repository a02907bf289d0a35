use Rattle.std.proofs.Common.{rules}
use Rattle.bosh_lock.proofs.Leaving.{not_free}
use Rattle.bosh_lock.proofs.Taking.{takes_slot}
use Rattle.bosh_lock.proofs.gate.try_take.Goals as goal

pub compare_exchange-requires : goal.compare_exchange-requires
compare_exchange-requires g c = (search rules, search rules, takes_slot g.S.Chronicle.items _ _ _ _ not_free c.requires.share)
