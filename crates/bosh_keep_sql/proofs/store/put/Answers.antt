use Rattle.std.proofs.Common.{◌≡◌, [], ◌∷◌, ◌++◌, ap, subst, sym, ◌∙◌}
use Rattle.bosh_keep_sql.specs.Holding.{IsTied}
use Rattle.bosh_keep_sql.specs.Rows.{row_of}
use Rattle.bosh_keep_sql.specs.Statements.{insert_text, Runs}
use Rattle.sqlite.specs.Held.{state}
use Rattle.bosh_keep_sql.proofs.HoldingLemmas.{tied_unwritten, tied_written}
use Rattle.bosh_ports.proofs.ContentsLemmas.{contents-push}
use Rattle.bosh_ports.specs.Contents.{contents}
use Rattle.bosh_keep_sql.proofs.store.put.Goals as goal

pub returns-in_err-insert-clause-tied : goal.returns-in_err-insert-clause-tied
returns-in_err-insert-clause-tied g c = λ tied.
    rw c.reserve.ensures.items (tied_unwritten g.S.Store (contents c.args.bodies.now.items) c.args.connection.now
    c.insert.new.connection tied c.insert.ensures.before c.in_err-insert.ensures.unwritten)

pub returns-clause-tied : goal.returns-clause-tied
returns-clause-tied g c = λ tied.
    let same : contents c.push_reserved.new.self.items ≡ contents c.args.bodies.now.items ++ c.args.body.now ∷ []
    = rw (c.push_reserved.ensures.items, c.reserve.ensures.items)
    (contents-push c.args.bodies.now.items c.in_ok-copy.copy
    ∙ ap (λ b. contents c.args.bodies.now.items ++ b ∷ []) (c.in_ok-copy.ensures.items_if_clones_equal (λ _ _ e. e))) in
    subst (λ xs. IsTied g.S.Store c.insert.new.connection xs) (sym same)
    (tied_written g.S.Store (contents c.args.bodies.now.items) c.args.body.now c.args.connection.now
    c.insert.new.connection tied c.insert.ensures.before c.in_ok-insert.ensures.written
    (λ clean. subst (λ n. Runs insert_text (row_of n c.args.body.now) (state g.S.Store c.args.connection.now)
    (state g.S.Store c.insert.new.connection)) c.in_ok-position.ensures.position (c.in_ok-insert.ensures.runs clean)))
