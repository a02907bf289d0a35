use Rattle.std.proofs.Common.{rules}
use Rattle.bosh_keep_sql.proofs.RefusalLemmas.{refuses_row}
use Rattle.bosh_keep_sql.proofs.transaction.insert_at.Goals as goal

pub returns-in-Ok-clause-refused : goal.returns-in-Ok-clause-refused
returns-in-Ok-clause-refused g c = λ clean inside.
    refuses_row g.S.Store c.in-Ok.position c.args.place c.args.body.now c.args.transaction.now.conn.now
    c.insert_in.new.transaction.conn.now c.insert_in.result (search rules) (c.insert_in.ensures.refused clean inside)
