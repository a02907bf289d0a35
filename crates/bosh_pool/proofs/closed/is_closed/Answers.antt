-- The bands that begin no later than an address are those up to the partition point.
use Rattle.std.proofs.Common.{◌≡◌, ℕ, ◌-◌, ◌≤◌, List, get_or, length, nat_le, ap, sym, subst, ◌∙◌, arith, rules}
use Rattle.std.specs.Prelude.{nat_lt}
use Rattle.bosh_base.specs.declared.addr.Band.{Band}
use Rattle.bosh_pool.proofs.ClosedLemmas.{is_closed_by, none_closed_by, point_of}
use Rattle.bosh_pool.proofs.closed.is_closed.Goals as goal

pub returns-then-begun-gt0 : goal.returns-then-begun-gt0
returns-then-begun-gt0 c =
    let bands = c.args.closed.now.bands in
    let addr = c.args.addr in
    let begun = c.partition_point-begun.result in
    let point = point_of addr c.as_slice.result.now bands begun c.as_slice.ensures c.requires.order c.partition_point-begun.ensures.partitioned (λ a r f' q. search rules) in
    let within : begun ≤ length bands = subst (λ (xs : List Band). begun ≤ length xs) c.as_slice.ensures c.partition_point-begun.ensures.bound in
    ap (λ (xs : List ℕ). nat_le addr.0 (get_or xs (begun - 1) 0)) c.as_slice-then-begun-gt0.ensures
    ∙ is_closed_by addr bands c.args.closed.now.reaches begun within point c.requires.reaches c.if-begun-gt0.true 0
    ∙ c.requires.bands addr

pub returns-else-begun-gt0 : goal.returns-else-begun-gt0
returns-else-begun-gt0 c =
    let bands = c.args.closed.now.bands in
    let addr = c.args.addr in
    let begun = c.partition_point-begun.result in
    let point = point_of addr c.as_slice.result.now bands begun c.as_slice.ensures c.requires.order c.partition_point-begun.ensures.partitioned (λ a r f' q. search rules) in
    let none : begun ≡ 0 = omega (arith, c.if-begun-gt0.false) in
    ap (λ (n : ℕ). nat_lt 0 n) none ∙ sym (none_closed_by addr bands begun point none) ∙ c.requires.bands addr
