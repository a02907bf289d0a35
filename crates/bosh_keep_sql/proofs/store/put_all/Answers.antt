use Rattle.std.proofs.Common.{ap, subst, ◌∙◌}
use Rattle.bosh_keep_sql.specs.Rewrites.{RefusesRewrite, Rewrites}
use Rattle.bosh_keep_sql.proofs.HoldingLemmas.{tied_rewritten, tied_unwritten}
use Rattle.bosh_keep_sql.proofs.LoadLemmas.{passed_failed}
use Rattle.bosh_ports.specs.declared.keeper.KeepFault.TheVariants.{Failed}
use Rattle.bosh_ports.specs.Contents.{contents}
use Rattle.bosh_keep_sql.proofs.SurvivalLemmas.{clean_commit, same_commit}
use Rattle.sqlite.specs.Held.{state}
use Rattle.bosh_keep_sql.proofs.store.put_all.Goals as goal

pub returns-in_err-copies-clause-whole : goal.returns-in_err-copies-clause-whole
returns-in_err-copies-clause-whole g c = same_commit (state g.S.Store c.args.connection.now)

pub returns-clause-rewritten : goal.returns-clause-rewritten
returns-clause-rewritten g c = λ clean.
    subst (λ xs. Rewrites g.S.Store xs c.args.connection.now c.rewrite.new.connection)
    (ap contents c.deref.ensures.value ∙ c.in_ok-copies.ensures.copied ∙ c.as_slice.ensures)
    (c.in_ok-rewrite.ensures.rewritten clean)

pub returns-in_err-copies-clause-tied : goal.returns-in_err-copies-clause-tied
returns-in_err-copies-clause-tied g c = λ tied. tied

pub returns-in_err-rewrite-clause-tied : goal.returns-in_err-rewrite-clause-tied
returns-in_err-rewrite-clause-tied g c = λ tied.
    tied_unwritten g.S.Store (contents c.args.bodies.now.items) c.args.connection.now c.rewrite.new.connection tied
    (clean_commit (state g.S.Store c.args.connection.now) (state g.S.Store c.rewrite.new.connection)
    c.rewrite.ensures.whole) c.in_err-rewrite.ensures.unwritten

pub returns-in_err-rewrite-clause-failed : goal.returns-in_err-rewrite-clause-failed
returns-in_err-rewrite-clause-failed g c = λ clean told.
    subst (λ xs. RefusesRewrite g.S.Store xs c.args.connection.now c.rewrite.new.connection Failed)
    (ap contents c.deref.ensures.value ∙ c.in_ok-copies.ensures.copied ∙ c.as_slice.ensures)
    (passed_failed (RefusesRewrite g.S.Store _ c.args.connection.now c.rewrite.new.connection)
    c.from_residual-in_err-rewrite.result c.in_err-rewrite.field-0.0 c.from_residual-in_err-rewrite.ensures.1 told
    (c.in_err-rewrite.ensures.refused clean))

pub returns-clause-tied : goal.returns-clause-tied
returns-clause-tied g c = λ tied.
    tied_rewritten g.S.Store _ c.args.connection.now c.rewrite.new.connection c.in_ok-rewrite.ensures.ended
    (λ clean. subst (λ xs. Rewrites g.S.Store xs c.args.connection.now c.rewrite.new.connection)
    (ap contents c.deref.ensures.value) (c.in_ok-rewrite.ensures.rewritten clean))
