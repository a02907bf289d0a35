use Rattle.std.proofs.Common.{◌≡◌, drop}
use Rattle.std.specs.List.{list_any}
use Rattle.bosh_base.specs.Plan.{has_dynamic}
use Rattle.bosh_pool.proofs.closed.is_lent.Given as goal

-- none of the subnets so far gives it
abbrev pub invariant-loop-i : goal.invariant-loop-i
invariant-loop-i l = list_any (λ subnet. has_dynamic subnet l.want.net l.want.az l.addr) l.subnets
    ≡ list_any (λ subnet. has_dynamic subnet l.want.net l.want.az l.addr) (drop l.i l.subnets)
