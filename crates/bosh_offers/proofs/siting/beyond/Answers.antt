-- One more instance is passed.
use Rattle.std.proofs.Common.{◌≡◌, ◌∙◌, ℕ, suc, ◌+◌, ◌-◌, List, ap, sym, arith}
use Rattle.bosh_base.specs.declared.addr.Addr.{Addr}
use Rattle.bosh_offers.specs.Sited.{beyond}
use Rattle.bosh_offers.proofs.siting.beyond.Goals as goal

pub loop-preserved : goal.loop-preserved
loop-preserved c =
    let width = c.args.width in
    let rest = c.args.count - (c.loop.counter + 1) in
    let count : c.args.count - c.loop.counter ≡ suc rest = omega arith in
    c.loop.invariant
    ∙ (ap (λ (n : ℕ). beyond n width c.loop.others.now) count
    ∙ ap (λ (addrs : List Addr). beyond rest width addrs) (sym c.rest-others.ensures))
