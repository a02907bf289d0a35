use Rattle.std.proofs.Common.{◌≡◌, map, take}
use Rattle.bosh_instances.specs.Applied.{all_packages}
use Rattle.bosh_instances.proofs.applied.all_packages.Given as goal

abbrev pub invariant-loop-used : goal.invariant-loop-used
invariant-loop-used l = map (λ pack. pack.now) l.packages.items ≡ all_packages (take l.used-index l.jobs)
