use Rattle.bosh_keep_sql.proofs.HoldingLemmas.{stands_alone}
use Rattle.bosh_keep_sql.proofs.KeeperLemmas.{stands_seen, uncopied_seen}
use Rattle.bosh_keep_sql.proofs.keeper.SqlKeeper+FileStore+D.close_files.Goals as goal

pub returns-in-Ok-clause-copied : goal.returns-in-Ok-clause-copied
returns-in-Ok-clause-copied g c = λ clean.
    stands_seen _ c.args.self c.in-Ok.files c.self.view_is
    (stands_alone _ _ c.in-Ok.files c.self.invariant (c.in-Ok.ensures.copied clean))

pub returns-clause-cause : goal.returns-clause-cause
returns-clause-cause g c = λ clean.
    uncopied_seen _ c.args.self c.in-Err.store c.fault_of.result c.self.view_is
    (c.in-Err.error, c.fault_of.ensures, c.in-Err.ensures.err.1 clean)
