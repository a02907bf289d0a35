-- The next number is below the bands that were not passed.
use Rattle.std.proofs.Common.{arith}
use Rattle.bosh_base.specs.declared.addr.Band.{Band}
use Rattle.bosh_pool.proofs.SpotLemmas.{clear_at}
use Rattle.bosh_pool.proofs.spot.pass_bands.Goals as goal

pub returns-else-from-spot-clause-clear : goal.returns-else-from-spot-clause-clear
returns-else-from-spot-clause-clear c =
    let none : Band = record { first = record { 0 = 0 }; last = record { 0 = 0 } } in
    clear_at c.args.bands.now c.loop-spot.spot none c.loop-spot.invariant.passed
    (λ k behind within. omega (arith, c.if-from-spot.false, c.from.ensures, c.requires.order c.loop-spot.spot.passed k none behind within))

pub returns-after-loop-spot-clause-clear : goal.returns-after-loop-spot-clause-clear
returns-after-loop-spot-clause-clear c =
    clear_at c.args.bands.now c.loop-spot.spot (record { first = record { 0 = 0 }; last = record { 0 = 0 } }) c.loop-spot.invariant.passed (λ k behind within. absurd (omega arith))
