use Rattle.std.proofs.Common.{◌≡◌, map}
use Rattle.bosh_release_specs.specs.JobSpec.{template}
use Rattle.bosh_release_specs.proofs.job_file.templates.Given as goal

abbrev pub invariant-loop-source : goal.invariant-loop-source
invariant-loop-source l = l.places.items ≡ map template l.yielded
