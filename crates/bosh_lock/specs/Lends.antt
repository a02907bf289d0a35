-- What a turn ends as, where its value is lent.
use Rattle.std.specs.Borrow.{Fml, Lends, MutBor, RattleType}
use Rattle.bosh_lock.specs.Views.{TurnView}
use Rattle.bosh_lock.specs.contracts.turn.Turn.{the_row}
use Rattle.bosh_lock.specs.declared.chronicle.Chronicle.{Ghosts}

module _ (S I : RattleType) (chronicle : Ghosts S.Denot I.Denot) (turn : MutBor (TurnView S.Denot I.Denot)) where
  -- once the loan ends, the turn has the value that stood there last, and is the same else
  abbrev pub LendsValue : MutBor S.Denot → Fml
  LendsValue lent = Lends (the_row S I chronicle) S turn lent (λ value. record turn.now { value = value })
