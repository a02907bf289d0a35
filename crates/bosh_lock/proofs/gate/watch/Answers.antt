use Rattle.std.proofs.Common.{rules, refl, ap, ◌∙◌}
use Rattle.bosh_lock.specs.Steps.{Sat}
use Rattle.bosh_lock.proofs.Extending.{Extends_refl}
use Rattle.bosh_lock.proofs.Knowing.{looks_on}
use Rattle.bosh_lock.proofs.gate.watch.Goals as goal

pub loop-init : goal.loop-init
loop-init g c = (refl, (c.args.seat.now.me.0.seen, refl, Extends_refl c.args.seat.now.me.0.seen))

pub load-found-requires : goal.load-found-requires
load-found-requires g c = (
  search rules,
  search rules,
  looks_on g.S.Chronicle.items _ _ _
      (ap (λ (m : Sat g.row.S.Denot g.row.S-Item.Denot). m.0.holds) c.loop.invariant.1.1 ∙ c.requires.idle),
)
