use Rattle.std.proofs.Common.{◌≢◌, rules}
use Rattle.bosh_ports.specs.Contents.{contents}
use Rattle.bosh_keep_sql.specs.declared.fault.LoadFault.TheVariants.{Memory}
use Rattle.bosh_keep_sql.specs.Rows.{AreFaulty}
use Rattle.bosh_keep_sql.proofs.LoadLemmas.{passed}
use Rattle.bosh_keep_sql.proofs.RowLemmas.{rows_faulty, rows_step}
use Rattle.bosh_keep_sql.proofs.rows.bodies_of.Goals as goal

pub loop-place-preserved : goal.loop-place-preserved
loop-place-preserved c =
    rows_step c.args.rows.now c.loop-place.place c.index-rows-place.result (contents c.loop-place.bodies.items)
    (contents c.push_body.new.bodies.items) c.in_ok-push_body.ensures.pushed.0 c.loop-place-test.true
    c.loop-place.invariant (search (rules, c.index-rows-place.is)) c.in_ok-push_body.ensures.pushed.1 c.in_ok-push_body.ensures.pushed.2

pub returns-in_err-push_body-clause-fault : goal.returns-in_err-push_body-clause-fault
returns-in_err-push_body-clause-fault c =
    passed (λ fault. fault ≢ Memory → AreFaulty c.args.rows.now fault) c.from_residual.result
    c.in_err-push_body.field-0.0 c.from_residual.ensures.1
    (λ other. rows_faulty c.args.rows.now c.loop-place.place c.index-rows-place.result
    (contents c.loop-place.bodies.items) c.in_err-push_body.field-0.0 c.loop-place-test.true c.loop-place.invariant
    (search (rules, c.index-rows-place.is)) (c.in_err-push_body.ensures.fault other))
