use Rattle.std.proofs.Common.{◌≡◌, take}
use Rattle.std.specs.Prelude.{length, IsTrue}
use Rattle.bosh_keep_sql.specs.Rewrites.{InsertsInside}
use Rattle.bosh_ports.specs.Contents.{contents}
use Rattle.sqlite.specs.Held.{state}
use Rattle.sqlite.specs.State.{HasCleanDisk, KeepsCommit, Survives}
use Rattle.bosh_keep_sql.proofs.transaction.insert_all.Given as goal

abbrev pub invariant-loop-place : goal.invariant-loop-place
invariant-loop-place g l =
    (l.transaction.conn.ghost_name ≡ l.fn.transaction.conn.ghost_name)
    × Survives (state g.S.Store l.fn.transaction.conn.now) (state g.S.Store l.transaction.conn.now) (λ _. ⊥)
    × (length (contents (take l.place l.bodies)) ≡ l.place)
    × (HasCleanDisk (state g.S.Store l.transaction.conn.now) → IsTrue l.fn.transaction.conn.now.in_transaction →
    InsertsInside g.S.Store (contents (take l.place l.bodies)) l.fn.transaction.conn.now l.transaction.conn.now)
    × (HasCleanDisk (state g.S.Store l.transaction.conn.now) → IsTrue l.fn.transaction.conn.now.in_transaction →
    KeepsCommit (state g.S.Store l.fn.transaction.conn.now) (state g.S.Store l.transaction.conn.now))
