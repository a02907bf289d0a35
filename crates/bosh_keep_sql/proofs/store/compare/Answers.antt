use Rattle.std.proofs.Common.{◌≡◌, ap, sym, ◌∙◌}
use Rattle.bosh_keep_sql.proofs.RowLemmas.{is_faulty, rows_same}
use Rattle.bosh_ports.specs.Contents.{contents}
use Rattle.bosh_ports.specs.declared.keeper.KeepFault.TheVariants.{Failed}
use Rattle.bosh_keep_sql.proofs.store.compare.Goals as goal

pub returns-in-Ok-clause-failed : goal.returns-in-Ok-clause-failed
returns-in-Ok-clause-failed c = λ told same.
    c.are_same.ensures.others c.if-are_same.false
    (ap contents c.deref.ensures.value ∙ rows_same 0 (contents c.in-Ok.found.items) (contents c.args.bodies.now)
    (sym c.in-Ok.ensures.found ∙ same))

pub returns-clause-failed : goal.returns-clause-failed
returns-clause-failed c = λ told.
    let kept : c.kept_as.result ≡ Failed = cc in
    is_faulty c.args.rows.now c.in-Err.fault (contents c.args.bodies.now) c.in-Err.ensures.fault
    (sym c.kept_as.ensures ∙ kept)
