use Rattle.std.proofs.Common.{◌≡◌, map}
use Rattle.bosh_keys.specs.Works.{keys_named}
use Rattle.bosh_keys.proofs.packages.Packages.deps.Given as goal

abbrev pub invariant-loop-name : goal.invariant-loop-name
invariant-loop-name l = l.keys.items ≡ keys_named l.self l.stemcell (map (λ name. name.now) l.yielded)
