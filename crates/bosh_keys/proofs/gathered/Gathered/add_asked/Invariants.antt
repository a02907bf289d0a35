use Rattle.std.proofs.Common.{[], take}
use Rattle.bosh_keys.specs.Once.{Adds}
use Rattle.bosh_keys.specs.Works.{keys_named}
use Rattle.bosh_keys.proofs.gathered.Gathered.add_asked.Given as goal

abbrev pub invariant-loop-name : goal.invariant-loop-name
invariant-loop-name l = Adds [] (keys_named l.packages l.stemcell (take l.name-index l.names)) l.fn.self l.self
