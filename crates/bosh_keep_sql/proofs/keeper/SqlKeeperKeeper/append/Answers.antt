use Rattle.bosh_keep_sql.proofs.KeeperLemmas.{stored_seen, tied_seen}
use Rattle.bosh_keep_sql.proofs.keeper.SqlKeeperKeeper.append.Goals as goal

pub returns-in-Ok-clause-stored : goal.returns-in-Ok-clause-stored
returns-in-Ok-clause-stored g c = λ clean.
    stored_seen g.S.Store _ c.args.self.now c.args.body.now c.put.new.connection c.self.view_is
    (c.in-Ok.ensures.stored clean)

pub returns-then-self-clause-tied : goal.returns-then-self-clause-tied
returns-then-self-clause-tied g c = tied_seen g.S.Store _ c.args.self.now c.self.view_is c.self.invariant

pub invariant_of-self : goal.invariant_of-self
invariant_of-self g c = c.put.ensures.tied c.self.invariant

pub invariant_of-self-in-Err : goal.invariant_of-self-in-Err
invariant_of-self-in-Err g c = c.put.ensures.tied c.self.invariant

pub returns-in-Ok-clause-tied : goal.returns-in-Ok-clause-tied
returns-in-Ok-clause-tied g c = c.put.ensures.tied c.self.invariant
