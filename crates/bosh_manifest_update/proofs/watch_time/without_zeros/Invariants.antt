use Rattle.std.proofs.Common.{◌≡◌, length}
use Rattle.bosh_ip.specs.Bytes.{without_leading}
use Rattle.bosh_manifest_update.proofs.watch_time.without_zeros.Given as goal

-- the zeros so far lead
abbrev pub invariant-loop-rest : goal.invariant-loop-rest
invariant-loop-rest l = without_leading 48 l.digits ≡ without_leading 48 l.rest

abbrev pub decreases-loop-rest : goal.decreases-loop-rest
decreases-loop-rest l = length l.rest
