use Rattle.std.proofs.Common.{rules, ◌+◌, ◌-◌, ◌%◌, ◌^◌}
use Rattle.bosh_lock.proofs.Knowing.{stays_put}
use Rattle.bosh_lock.proofs.lock.SiteLock.await_change.Goals as goal

pub fetch_add-requires : goal.fetch_add-requires
fetch_add-requires g c = (search rules, search rules, stays_put g.S.Chronicle.items _ _ _ (λ n. (n + 1) % 2 ^ 64))

pub fetch_sub-requires : goal.fetch_sub-requires
fetch_sub-requires g c = (search rules, search rules, stays_put g.S.Chronicle.items _ _ _ (λ n. (n + (2 ^ 64 - 1)) % 2 ^ 64))
