use Rattle.std.proofs.Common.{◌≡◌, map, take}
use Rattle.bosh_release_files.specs.Files.{in_order}
use Rattle.bosh_keys.proofs.packages.in_order.Given as goal

abbrev pub invariant-loop-name : goal.invariant-loop-name
invariant-loop-name l = map (λ name. name.now) l.ordered.keys ≡ in_order (take l.name-index l.names)
