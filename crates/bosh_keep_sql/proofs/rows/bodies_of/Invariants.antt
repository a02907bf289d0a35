use Rattle.std.proofs.Common.{◌≡◌, take, length}
use Rattle.bosh_keep_sql.specs.Rows.{rows_from}
use Rattle.bosh_ports.specs.Contents.{contents}
use Rattle.bosh_keep_sql.proofs.rows.bodies_of.Given as goal

abbrev pub invariant-loop-place : goal.invariant-loop-place
invariant-loop-place l =
    (rows_from 0 (contents l.bodies.items) ≡ take l.place l.rows) × (length (contents l.bodies.items) ≡ l.place)
