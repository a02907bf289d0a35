use Rattle.std.proofs.Common.{Ok, Err}
use Rattle.bosh_keep_sql.proofs.RewriteLemmas.{ran_inside}
use Rattle.bosh_keep_sql.specs.Rows.{row_of}
use Rattle.bosh_keep_sql.specs.Statements.{insert_text}
use Rattle.bosh_keep_sql.proofs.UndoneLemmas.{inside_keeps}
use Rattle.sqlite.specs.Held.{state}
use Rattle.bosh_keep_sql.proofs.transaction.insert_in.Goals as goal

pub returns-in-Ok-clause-runs : goal.returns-in-Ok-clause-runs
returns-in-Ok-clause-runs g c = λ clean inside.
    ran_inside g.S.Store insert_text (row_of c.args.position c.args.body.now) c.args.transaction.now.conn.now
    c.execute.new.self.conn.now c.in-Ok._count
    (rw (c.params-to_sql.ensures, c.params-to_sql-2.ensures) at (c.in-Ok.ensures.runs clean inside))

pub returns-in-Ok-clause-kept : goal.returns-in-Ok-clause-kept
returns-in-Ok-clause-kept g c = λ clean inside.
    inside_keeps insert_text _ (state g.S.Store c.args.transaction.now.conn.now)
    (state g.S.Store c.execute.new.self.conn.now) (Ok c.in-Ok._count) (c.in-Ok.ensures.runs clean inside)

pub returns-in-Err-clause-kept : goal.returns-in-Err-clause-kept
returns-in-Err-clause-kept g c = λ clean inside.
    inside_keeps insert_text _ (state g.S.Store c.args.transaction.now.conn.now)
    (state g.S.Store c.execute.new.self.conn.now) (Err c.in-Err.error) (c.in-Err.ensures.runs clean inside)

pub returns-in-Err-clause-refused : goal.returns-in-Err-clause-refused
returns-in-Err-clause-refused g c = λ clean inside. (
  c.in-Err.error,
  c.fault_of.ensures,
  rw (c.params-to_sql.ensures, c.params-to_sql-2.ensures) at (c.in-Err.ensures.runs clean inside),
)
