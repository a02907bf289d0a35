use Rattle.std.proofs.Common.{◌∙◌, rules, subst}
use Rattle.bosh_keep_sql.proofs.RewriteLemmas.{clean_before, inserts_size, inserts_step}
use Rattle.bosh_keep_sql.proofs.LoadLemmas.{passed}
use Rattle.bosh_keep_sql.proofs.RefusalLemmas.{fails_insert}
use Rattle.bosh_keep_sql.proofs.UndoneLemmas.{keeps_both}
use Rattle.bosh_keep_sql.specs.Rewrites.{FailsToInsert, RefusesRow}
use Rattle.bosh_ports.specs.Contents.{contents}
use Rattle.bosh_keep_sql.proofs.SurvivalLemmas.{survives_both}
use Rattle.bosh_keep_sql.specs.Rows.{row_of}
use Rattle.bosh_keep_sql.specs.Statements.{insert_text, Runs}
use Rattle.sqlite.specs.Held.{state}
use Rattle.bosh_keep_sql.proofs.transaction.insert_all.Goals as goal

pub loop-place-preserved : goal.loop-place-preserved
loop-place-preserved g c = (
  c.insert_at.ensures.same_reference ∙ c.loop-place.invariant.0,
  survives_both (state g.S.Store c.args.transaction.now.conn.now) (state g.S.Store c.loop-place.transaction.conn.now)
      (state g.S.Store c.insert_at.new.transaction.conn.now) c.loop-place.invariant.1 c.insert_at.ensures.survives,
  inserts_size g.S.Store c.args.bodies.now c.loop-place.place c.index-bodies-place.result c.loop-place-test.true
      c.loop-place.invariant.2,
  (λ clean inside.
      let before = clean_before (state g.S.Store c.loop-place.transaction.conn.now)
      (state g.S.Store c.insert_at.new.transaction.conn.now) (λ _. ⊥) c.insert_at.ensures.survives clean in
      let so_far = c.loop-place.invariant.3 before inside in
      let ran = c.in_ok-insert_at.ensures.runs clean so_far.1 in (
        inserts_step g.S.Store c.args.bodies.now c.loop-place.place c.index-bodies-place.result
            c.args.transaction.now.conn.now c.loop-place.transaction.conn.now c.insert_at.new.transaction.conn.now
            c.loop-place-test.true (search (rules, c.index-bodies-place.is)) c.loop-place.invariant.2 so_far.0
            (subst (λ bytes. Runs insert_text (row_of c.loop-place.place bytes)
            (state g.S.Store c.loop-place.transaction.conn.now) (state g.S.Store c.insert_at.new.transaction.conn.now))
            c.deref.ensures.value ran.0),
        ran.1,
      )),
  (λ clean inside.
      let before = clean_before (state g.S.Store c.loop-place.transaction.conn.now)
      (state g.S.Store c.insert_at.new.transaction.conn.now) (λ _. ⊥) c.insert_at.ensures.survives clean in
      keeps_both (state g.S.Store c.args.transaction.now.conn.now) (state g.S.Store c.loop-place.transaction.conn.now)
      (state g.S.Store c.insert_at.new.transaction.conn.now) (c.loop-place.invariant.4 before inside)
      (c.insert_at.ensures.kept clean (c.loop-place.invariant.3 before inside).1)),
)

pub returns-in_err-insert_at-clause-kept : goal.returns-in_err-insert_at-clause-kept
returns-in_err-insert_at-clause-kept g c = λ clean inside.
    let before = clean_before (state g.S.Store c.loop-place.transaction.conn.now)
    (state g.S.Store c.insert_at.new.transaction.conn.now) (λ _. ⊥) c.insert_at.ensures.survives clean in
    keeps_both (state g.S.Store c.args.transaction.now.conn.now) (state g.S.Store c.loop-place.transaction.conn.now)
    (state g.S.Store c.insert_at.new.transaction.conn.now) (c.loop-place.invariant.4 before inside)
    (c.insert_at.ensures.kept clean (c.loop-place.invariant.3 before inside).1)

pub returns-in_err-insert_at-clause-refused : goal.returns-in_err-insert_at-clause-refused
returns-in_err-insert_at-clause-refused g c = λ clean inside.
    let before = clean_before (state g.S.Store c.loop-place.transaction.conn.now)
    (state g.S.Store c.insert_at.new.transaction.conn.now) (λ _. ⊥) c.insert_at.ensures.survives clean in
    let so_far = c.loop-place.invariant.3 before inside in
    passed (FailsToInsert g.S.Store (contents c.args.bodies.now) c.args.transaction.now.conn.now
    c.insert_at.new.transaction.conn.now) c.from_residual.result c.in_err-insert_at.field-0.0 c.from_residual.ensures.1
    (fails_insert g.S.Store c.args.bodies.now c.loop-place.place c.index-bodies-place.result
    c.args.transaction.now.conn.now c.loop-place.transaction.conn.now c.insert_at.new.transaction.conn.now
    c.in_err-insert_at.field-0.0 c.loop-place-test.true (search (rules, c.index-bodies-place.is))
    c.loop-place.invariant.2 so_far
    (subst (λ bytes. RefusesRow g.S.Store c.loop-place.place bytes c.loop-place.transaction.conn.now
    c.insert_at.new.transaction.conn.now c.in_err-insert_at.field-0.0) c.deref.ensures.value
    (c.in_err-insert_at.ensures.refused clean so_far.1)))
