use Rattle.sqlite.specs.Held.{state}
use Rattle.bosh_keep_sql.proofs.SettledLemmas.{schema_listed_any}
use Rattle.bosh_keep_sql.proofs.statements.list_tables.Goals as goal

pub returns-clause-unwritten : goal.returns-clause-unwritten
returns-clause-unwritten g c = λ clean settled.
    schema_listed_any (state g.S.Store c.args.connection.now) (state g.S.Store c.query_all.new.self) settled
    c.query_all.result (c.query_all.ensures.ok clean) (c.query_all.ensures.err clean)
