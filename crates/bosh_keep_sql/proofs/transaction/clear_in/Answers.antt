use Rattle.std.proofs.Common.{[], Ok, Err}
use Rattle.bosh_keep_sql.proofs.RewriteLemmas.{ran_inside}
use Rattle.bosh_keep_sql.specs.Rewrites.{delete_text}
use Rattle.bosh_keep_sql.proofs.UndoneLemmas.{inside_keeps}
use Rattle.sqlite.specs.Held.{state}
use Rattle.bosh_keep_sql.proofs.transaction.clear_in.Goals as goal

pub returns-in-Ok-clause-runs : goal.returns-in-Ok-clause-runs
returns-in-Ok-clause-runs g c = λ clean inside.
    ran_inside g.S.Store delete_text [] c.args.transaction.now.conn.now c.execute.new.self.conn.now c.in-Ok._count
    (c.in-Ok.ensures.runs clean inside)

pub returns-in-Ok-clause-kept : goal.returns-in-Ok-clause-kept
returns-in-Ok-clause-kept g c = λ clean inside.
    inside_keeps delete_text [] (state g.S.Store c.args.transaction.now.conn.now)
    (state g.S.Store c.execute.new.self.conn.now) (Ok c.in-Ok._count) (c.in-Ok.ensures.runs clean inside)

pub returns-in-Err-clause-kept : goal.returns-in-Err-clause-kept
returns-in-Err-clause-kept g c = λ clean inside.
    inside_keeps delete_text [] (state g.S.Store c.args.transaction.now.conn.now)
    (state g.S.Store c.execute.new.self.conn.now) (Err c.in-Err.error) (c.in-Err.ensures.runs clean inside)
