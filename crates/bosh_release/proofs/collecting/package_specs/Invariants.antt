use Rattle.std.proofs.Common.{◌≡◌, take}
use Rattle.bosh_release.specs.Collected.{package_specs}
use Rattle.bosh_release.proofs.collecting.package_specs.Given as goal

abbrev pub invariant-loop-place : goal.invariant-loop-place
invariant-loop-place l = l.specs.items ≡ package_specs (take l.place l.packages) (take l.place l.prints)
