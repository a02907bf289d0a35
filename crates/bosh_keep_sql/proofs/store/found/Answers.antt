use Rattle.bosh_ports.specs.Contents.{contents}
use Rattle.std.proofs.Common.{inl}
use Rattle.bosh_keep_sql.specs.Loads.{FailsToFind}
use Rattle.bosh_keep_sql.proofs.HoldingLemmas.{tied_listed}
use Rattle.bosh_keep_sql.proofs.LoadLemmas.{found_in, passed, unread}
use Rattle.bosh_keep_sql.proofs.store.found.Goals as goal

pub returns-in_err-prepare-clause-refused : goal.returns-in_err-prepare-clause-refused
returns-in_err-prepare-clause-refused g c = λ clean.
    passed (FailsToFind g.S.Store c.args.connection.now c.prepare.new.connection) c.from_residual.result
    c.in_err-prepare.field-0.0 c.from_residual.ensures.1 (inl (c.in_err-prepare.ensures.refused clean))

pub returns-clause-found : goal.returns-clause-found
returns-clause-found g c = λ clean.
    found_in g.S.Store c.args.connection.now c.prepare.new.connection c.listed.new.connection
    (λ bodies. contents bodies.items) c.listed.result (c.in_ok-prepare.ensures.ok (c.listed.ensures.before clean))
    (c.listed.ensures.listed clean)

pub returns-clause-refused : goal.returns-clause-refused
returns-clause-refused g c = λ clean.
    unread g.S.Store c.args.connection.now c.prepare.new.connection c.listed.new.connection
    c.listed.result (c.in_ok-prepare.ensures.ok (c.listed.ensures.before clean)) (c.listed.ensures.refused clean)

pub returns-clause-tied : goal.returns-clause-tied
returns-clause-tied g c = λ settled.
    tied_listed g.S.Store (λ bodies. contents bodies.items) c.listed.result c.prepare.new.connection
    c.listed.new.connection (λ clean. c.prepare.ensures.settled (c.listed.ensures.before clean) settled)
    c.listed.ensures.unwritten c.listed.ensures.listed
