use Rattle.std.proofs.Common.{rules, ◌≤◌, sym, subst}
use Rattle.bosh_lock.specs.Steps.{Sat}
use Rattle.bosh_lock.proofs.Leaving.{not_zero}
use Rattle.bosh_lock.proofs.Taking.{takes_slot}
use Rattle.bosh_lock.proofs.gate.take_in_turn.Goals as goal

pub swap-requires : goal.swap-requires
swap-requires g c = (
  search rules,
  search rules,
  takes_slot g.S.Chronicle.items _ _ _ (λ _. 2) (λ _. not_zero 1)
      (subst (λ (m : Sat g.row.S.Denot g.row.S-Item.Denot). 1 ≤ m.0.share) (sym c.loop.invariant.1) c.requires.share),
)
