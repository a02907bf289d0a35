use Rattle.bosh_keep_sql.proofs.LoadLemmas.{made, not_made}
use Rattle.bosh_keep_sql.proofs.table.prepare.Goals as goal

pub returns-in-Ok-Nothing-clause-ok : goal.returns-in-Ok-Nothing-clause-ok
returns-in-Ok-Nothing-clause-ok g c = λ clean.
    made g.S.Store c.args.connection.now c.contents_of.new.connection c.make.new.connection
    c.in-Ok-Nothing.field-0 c.in-Ok-Nothing.field-0-is (c.in-Ok-Nothing.ensures.shown (c.make.ensures.before clean)) c.make.result (c.make.ensures.ok clean)

pub returns-in-Ok-Nothing-clause-refused : goal.returns-in-Ok-Nothing-clause-refused
returns-in-Ok-Nothing-clause-refused g c = λ clean.
    not_made g.S.Store c.args.connection.now c.contents_of.new.connection c.make.new.connection
    c.in-Ok-Nothing.field-0 c.in-Ok-Nothing.field-0-is (c.in-Ok-Nothing.ensures.shown (c.make.ensures.before clean)) c.make.result (c.make.ensures.refused clean)

pub returns-in-Ok-Nothing-clause-settled : goal.returns-in-Ok-Nothing-clause-settled
returns-in-Ok-Nothing-clause-settled g c = λ clean settled.
    c.make.ensures.settled clean (c.contents_of.ensures.unwritten (c.make.ensures.before clean) settled).0
