use Rattle.std.proofs.Common.{[], map, take}
use Rattle.bosh_keys.specs.Once.{Adds}
use Rattle.bosh_keys.specs.Works.{work_of}
use Rattle.bosh_keys.proofs.gathered.Gathered.add_packages.Given as goal

abbrev pub invariant-loop-pack : goal.invariant-loop-pack
invariant-loop-pack l = Adds (map (work_of l.packages l.stemcell) (take l.pack-index l.pack-items)) [] l.fn.self l.self
