use Rattle.std.proofs.Common.{sym, ◌∙◌}
use Rattle.bosh_keep_sql.proofs.RowLemmas.{other_all, same_all}
use Rattle.bosh_keep_sql.proofs.rows.are_same.Goals as goal

pub returns-clause-same : goal.returns-clause-same
returns-clause-same c = λ told. same_all c.args.found.now c.args.bodies.now (sym c.eq.ensures ∙ told)

pub returns-clause-others : goal.returns-clause-others
returns-clause-others c = λ told. other_all c.args.found.now c.args.bodies.now (sym c.eq.ensures ∙ told)
