use Rattle.std.proofs.Common.{take}
use Rattle.bosh_manifest_names.specs.Answer.{Stands, each}
use Rattle.bosh_manifest_names.specs.Sources.{AreStemcells}
use Rattle.bosh_manifest_names.specs.Uses.{used_stemcell}
use Rattle.bosh_manifest_names.proofs.sources.listed_stemcells.Given as goal

abbrev pub invariant-loop-asked : goal.invariant-loop-asked
invariant-loop-asked l = Stands AreStemcells (each (used_stemcell l.stemcells) (take l.asked-index l.asked)) l.table
