use Rattle.sqlite.specs.Held.{state}
use Rattle.bosh_keep_sql.proofs.SettledLemmas.{inserted_if, uninserted_if}
use Rattle.bosh_keep_sql.proofs.statements.insert_row.Goals as goal

pub returns-clause-runs : goal.returns-clause-runs
returns-clause-runs g c = λ clean. rw (c.params-to_sql.ensures, c.params-to_sql-2.ensures) at (c.execute.ensures.runs clean)

pub returns-clause-written : goal.returns-clause-written
returns-clause-written g c = λ clean settled.
    inserted_if (state g.S.Store c.args.connection.now) (state g.S.Store c.execute.new.self) settled _ c.execute.result
    (c.execute.ensures.runs clean)

pub returns-clause-unwritten : goal.returns-clause-unwritten
returns-clause-unwritten g c = λ clean settled.
    uninserted_if (state g.S.Store c.args.connection.now) (state g.S.Store c.execute.new.self) settled _ c.execute.result
    (c.execute.ensures.runs clean)
