use Rattle.std.proofs.Common.{take}
use Rattle.bosh_manifest_names.specs.Answer.{Stands, each}
use Rattle.bosh_manifest_names.specs.Sources.{AreReleases}
use Rattle.bosh_manifest_names.specs.Uses.{used_release}
use Rattle.bosh_manifest_names.proofs.sources.listed_releases.Given as goal

abbrev pub invariant-loop-asked : goal.invariant-loop-asked
invariant-loop-asked l = Stands AreReleases (each (used_release l.releases) (take l.asked-index l.asked)) l.table
