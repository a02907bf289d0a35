use Rattle.std.proofs.Common.{◌≡◌, drop}
use Rattle.bosh_instances.specs.Moving.{moved}
use Rattle.bosh_instances.proofs.moving.check_disks.Given as goal

abbrev pub invariant-loop-group : goal.invariant-loop-group
invariant-loop-group l = moved l.dep l.rows l.groups ≡ moved l.dep l.rows (drop l.group-index l.groups)
