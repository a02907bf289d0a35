use Rattle.sqlite.specs.Held.{state}
use Rattle.bosh_keep_sql.proofs.SettledLemmas.{made_any}
use Rattle.bosh_keep_sql.proofs.statements.make_table.Goals as goal

pub returns-clause-settled : goal.returns-clause-settled
returns-clause-settled g c = λ clean settled.
    made_any (state g.S.Store c.args.connection.now) (state g.S.Store c.execute.new.self) settled _ c.execute.result
    (c.execute.ensures.runs clean)
