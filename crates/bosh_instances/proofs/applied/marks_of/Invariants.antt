use Rattle.std.proofs.Common.{◌≡◌, map, take}
use Rattle.bosh_instances.specs.Applied.{package_mark}
use Rattle.bosh_instances.proofs.applied.marks_of.Given as goal

abbrev pub invariant-loop-pack : goal.invariant-loop-pack
invariant-loop-pack l = l.marks.items ≡ map package_mark (map (λ pack. pack.now) (take l.pack-index l.packages))
