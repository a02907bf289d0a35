use Rattle.std.proofs.Common.{◌≡◌, map}
use Rattle.bosh_release_specs.specs.JobSpec.{property}
use Rattle.bosh_release_specs.proofs.job_file.properties.Given as goal

abbrev pub invariant-loop-name : goal.invariant-loop-name
invariant-loop-name l = l.properties.items ≡ map property l.yielded
