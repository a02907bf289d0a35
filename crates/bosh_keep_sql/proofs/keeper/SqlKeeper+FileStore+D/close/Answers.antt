use Rattle.bosh_keep_sql.proofs.keeper.SqlKeeper+FileStore+D.close.Goals as goal

pub returns-in-Ok-clause-copied : goal.returns-in-Ok-clause-copied
returns-in-Ok-clause-copied g c = (c.in-Ok._files, c.in-Ok.ensures.copied)
