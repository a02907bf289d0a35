use Rattle.std.proofs.Common.{◌≡◌, take}
use Rattle.bosh_ports.specs.Contents.{contents}
use Rattle.bosh_keep_sql.proofs.rows.copies_of.Given as goal

abbrev pub invariant-loop-body : goal.invariant-loop-body
invariant-loop-body l = contents l.copies.items ≡ contents (take l.body-index l.bodies)
