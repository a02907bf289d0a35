use Rattle.std.proofs.Common.{refl, rules, inl}
use Rattle.bosh_keep_sql.proofs.LoadLemmas.{passed, passed_on}
use Rattle.bosh_keep_sql.proofs.RefusalLemmas.{clear_refused, commit_refused, is_inside, row_refused}
use Rattle.bosh_keep_sql.proofs.UndoneLemmas.{ended_given, keeps_through, uncommitted_if, undone_if}
use Rattle.bosh_keep_sql.specs.Rewrites.{RefusesRewrite}
use Rattle.bosh_keep_sql.proofs.RewriteLemmas.{clean_before, rewritten}
use Rattle.bosh_ports.specs.Contents.{contents}
use Rattle.bosh_keep_sql.proofs.SurvivalLemmas.{begun_committed, begun_undone, same_commit, survives_both}
use Rattle.sqlite.specs.Held.{state}
use Rattle.bosh_keep_sql.proofs.transaction.rewrite.Goals as goal

pub returns-then-not-is_autocommit-clause-whole : goal.returns-then-not-is_autocommit-clause-whole
returns-then-not-is_autocommit-clause-whole g c = same_commit (state g.S.Store c.args.connection.now)

pub returns-in_err-clear_in-clause-whole : goal.returns-in_err-clear_in-clause-whole
returns-in_err-clear_in-clause-whole g c =
    begun_undone g.S.Store c.args.connection.now c.transaction-transaction.result.conn.now
    c.clear_in.new.transaction.conn.now c.drop-transaction.new.self.0 c.connection-1.given.0
    c.transaction-transaction.ensures.begun
    (search rules) c.clear_in.ensures.survives c.drop-transaction.ensures.survives

pub returns-in_err-insert_all-clause-whole : goal.returns-in_err-insert_all-clause-whole
returns-in_err-insert_all-clause-whole g c =
    begun_undone g.S.Store c.args.connection.now c.transaction-transaction.result.conn.now
    c.insert_all.new.transaction.conn.now c.drop-transaction-in_err-insert_all.new.self.0
    c.connection-in_err-insert_all-1.given.0
    c.transaction-transaction.ensures.begun (search rules)
    (survives_both (state g.S.Store c.transaction-transaction.result.conn.now)
    (state g.S.Store c.clear_in.new.transaction.conn.now) (state g.S.Store c.insert_all.new.transaction.conn.now)
    c.clear_in.ensures.survives c.insert_all.ensures.survives)
    c.drop-transaction-in_err-insert_all.ensures.survives

pub returns-in-Ok-clause-whole : goal.returns-in-Ok-clause-whole
returns-in-Ok-clause-whole g c =
    begun_committed g.S.Store c.args.connection.now c.transaction-transaction.result.conn.now
    c.insert_all.new.transaction.conn.now c.commit.new.self.0 c.connection-2-1.given.0
    c.transaction-transaction.ensures.begun (search rules)
    (survives_both (state g.S.Store c.transaction-transaction.result.conn.now)
    (state g.S.Store c.clear_in.new.transaction.conn.now) (state g.S.Store c.insert_all.new.transaction.conn.now)
    c.clear_in.ensures.survives c.insert_all.ensures.survives)
    c.commit.ensures.survives

pub returns-in-Err-clause-whole : goal.returns-in-Err-clause-whole
returns-in-Err-clause-whole g c =
    begun_committed g.S.Store c.args.connection.now c.transaction-transaction.result.conn.now
    c.insert_all.new.transaction.conn.now c.commit.new.self.0 c.connection-2-1.given.0
    c.transaction-transaction.ensures.begun (search rules)
    (survives_both (state g.S.Store c.transaction-transaction.result.conn.now)
    (state g.S.Store c.clear_in.new.transaction.conn.now) (state g.S.Store c.insert_all.new.transaction.conn.now)
    c.clear_in.ensures.survives c.insert_all.ensures.survives)
    c.commit.ensures.survives

pub returns-in-Ok-clause-rewritten : goal.returns-in-Ok-clause-rewritten
returns-in-Ok-clause-rewritten g c =
    rewritten g.S.Store c.args.connection.now c.transaction-transaction.result.conn.now
    c.clear_in.new.transaction.conn.now c.insert_all.new.transaction.conn.now c.commit.new.self.0
    c.connection-2-1.given.0 (contents c.args.bodies.now) _ c.transaction-transaction.ensures.begun (search rules)
    c.in_ok-clear_in.ensures.runs c.in_ok-insert_all.ensures.runs c.insert_all.ensures.survives
    c.commit.ensures.survives (λ clean. (c.in-Ok.ensures.ok clean).1)

pub returns-then-not-is_autocommit-clause-refused : goal.returns-then-not-is_autocommit-clause-refused
returns-then-not-is_autocommit-clause-refused g c = λ clean.
    inl (is_inside c.args.connection.now.in_transaction c.is_autocommit.result c.is_autocommit.ensures.value (search rules), refl)

pub returns-in_err-clear_in-clause-refused : goal.returns-in_err-clear_in-clause-refused
returns-in_err-clear_in-clause-refused g c = λ clean.
    passed (RefusesRewrite g.S.Store (contents c.args.bodies.now) c.args.connection.now c.connection-1.given.0)
    c.from_residual.result c.in_err-clear_in.field-0.0 c.from_residual.ensures.1
    (clear_refused g.S.Store c.args.connection.now c.transaction-transaction.result.conn.now (contents c.args.bodies.now)
    c.in_err-clear_in.field-0.0 c.transaction-transaction.ensures.begun c.clear_in.new.transaction.conn.now
    c.drop-transaction.new.self.0 c.connection-1.given.0 (search rules) _ c.drop-transaction.ensures.survives
    c.in_err-clear_in.ensures.refused clean)

pub returns-in_err-clear_in-clause-unwritten : goal.returns-in_err-clear_in-clause-unwritten
returns-in_err-clear_in-clause-unwritten g c = λ clean settled.
    passed_on _ c.from_residual.result c.in_err-clear_in.field-0.0 c.from_residual.ensures.1
    (undone_if g.S.Store c.args.connection.now c.transaction-transaction.result.conn.now
    c.clear_in.new.transaction.conn.now c.drop-transaction.new.self.0 c.connection-1.given.0
    c.transaction-transaction.ensures.begun (search rules) _ c.drop-transaction.ensures.survives c.clear_in.ensures.kept
    settled c.drop-transaction.ensures.undone clean)

pub returns-in_err-insert_all-clause-refused : goal.returns-in_err-insert_all-clause-refused
returns-in_err-insert_all-clause-refused g c = λ clean.
    passed (RefusesRewrite g.S.Store (contents c.args.bodies.now) c.args.connection.now
    c.connection-in_err-insert_all-1.given.0) c.from_residual-in_err-insert_all.result c.in_err-insert_all.field-0.0
    c.from_residual-in_err-insert_all.ensures.1
    (row_refused g.S.Store c.args.connection.now c.transaction-transaction.result.conn.now (contents c.args.bodies.now)
    c.in_err-insert_all.field-0.0 c.transaction-transaction.ensures.begun c.clear_in.new.transaction.conn.now
    c.drop-transaction-in_err-insert_all.new.self.0 c.connection-in_err-insert_all-1.given.0 (search rules)
    c.insert_all.new.transaction.conn.now _ _ c.insert_all.ensures.survives
    c.drop-transaction-in_err-insert_all.ensures.survives c.in_ok-clear_in.ensures.runs clean
    c.in_err-insert_all.ensures.refused)

pub returns-in_err-insert_all-clause-unwritten : goal.returns-in_err-insert_all-clause-unwritten
returns-in_err-insert_all-clause-unwritten g c = λ clean settled.
    passed_on _ c.from_residual-in_err-insert_all.result c.in_err-insert_all.field-0.0 c.from_residual-in_err-insert_all.ensures.1
    (undone_if g.S.Store c.args.connection.now c.transaction-transaction.result.conn.now c.insert_all.new.transaction.conn.now
    c.drop-transaction-in_err-insert_all.new.self.0 c.connection-in_err-insert_all-1.given.0
    c.transaction-transaction.ensures.begun (search rules) _ c.drop-transaction-in_err-insert_all.ensures.survives
    (keeps_through g.S.Store c.transaction-transaction.result.conn.now c.clear_in.new.transaction.conn.now
    c.insert_all.new.transaction.conn.now _ c.insert_all.ensures.survives c.clear_in.ensures.kept
    (λ clean inside. (c.in_ok-clear_in.ensures.runs clean inside).1) c.insert_all.ensures.kept) settled c.drop-transaction-in_err-insert_all.ensures.undone clean)

pub returns-in-Err-clause-unwritten : goal.returns-in-Err-clause-unwritten
returns-in-Err-clause-unwritten g c = λ clean settled.
    uncommitted_if g.S.Store c.args.connection.now c.transaction-transaction.result.conn.now c.insert_all.new.transaction.conn.now
    c.commit.new.self.0 c.connection-2-1.given.0 c.transaction-transaction.ensures.begun (search rules) _
    c.commit.ensures.survives
    (keeps_through g.S.Store c.transaction-transaction.result.conn.now c.clear_in.new.transaction.conn.now
    c.insert_all.new.transaction.conn.now _ c.insert_all.ensures.survives c.clear_in.ensures.kept
    (λ clean inside. (c.in_ok-clear_in.ensures.runs clean inside).1) c.insert_all.ensures.kept) settled c.in-Err.error
    (λ filled inside.
    (c.in_ok-insert_all.ensures.runs filled
    (c.in_ok-clear_in.ensures.runs
    (clean_before (state g.S.Store c.clear_in.new.transaction.conn.now) (state g.S.Store c.insert_all.new.transaction.conn.now) _ c.insert_all.ensures.survives filled)
    inside).1).1)
    c.in-Err.ensures.err clean

pub returns-in-Err-clause-refused : goal.returns-in-Err-clause-refused
returns-in-Err-clause-refused g c = λ clean.
    commit_refused g.S.Store c.args.connection.now c.transaction-transaction.result.conn.now (contents c.args.bodies.now) c.fault_of.result
    c.transaction-transaction.ensures.begun c.clear_in.new.transaction.conn.now c.commit.new.self.0 c.connection-2-1.given.0 (search rules)
    c.insert_all.new.transaction.conn.now _ _ c.insert_all.ensures.survives c.commit.ensures.survives c.in_ok-clear_in.ensures.runs clean
    c.in-Err.error c.fault_of.ensures c.in_ok-insert_all.ensures.runs c.in-Err.ensures.err

pub returns-in-Ok-clause-ended : goal.returns-in-Ok-clause-ended
returns-in-Ok-clause-ended g c =
    ended_given g.S.Store c.commit.new.self.0 c.connection-2-1.given.0 (search rules) c.commit.ensures.ended
